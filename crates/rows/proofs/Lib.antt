pub mod Faults
pub mod Files
pub mod Fills
pub mod Soundness
pub mod Cuts
