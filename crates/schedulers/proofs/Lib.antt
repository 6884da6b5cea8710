pub mod Bytes
pub mod Chosen
pub mod Timers
