pub mod Limits
pub mod Arrivals
pub mod Warned
pub mod Promised
