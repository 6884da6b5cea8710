pub mod Settings
pub mod Records
pub mod Regions
pub mod Theorems
