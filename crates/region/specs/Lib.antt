pub mod Views
pub mod Viewed
pub mod Reads
pub mod Waiting
pub mod Resetting
pub mod Same
