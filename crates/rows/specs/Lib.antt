pub mod Files
pub mod Plans
pub mod Readings
pub mod Refusals
pub mod Sections
pub mod Sound
pub mod Verdicts
