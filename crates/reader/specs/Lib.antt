pub mod Filling
pub mod Gathered
pub mod Owned
pub mod Parts
pub mod Split
