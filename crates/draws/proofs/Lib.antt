pub mod Rows
pub mod Shares
pub mod Turns
