pub mod Plans
pub mod Ticks
pub mod Cases
pub mod Runs
pub mod Telling
pub mod Typed
pub mod Tables
pub mod Examples
