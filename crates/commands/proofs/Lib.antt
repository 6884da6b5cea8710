mod Each
mod Filled
pub mod Moves
mod Whole
