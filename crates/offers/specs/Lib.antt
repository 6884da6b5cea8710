pub mod Waits
pub mod Checked
pub mod Known
pub mod Lists
