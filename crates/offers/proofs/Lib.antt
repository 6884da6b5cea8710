pub mod Checking
pub mod Comparing
pub mod Known
pub mod Offering
