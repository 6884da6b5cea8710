pub mod Batches
pub mod Promised
pub mod Rankings
pub mod Progresses
