pub mod Table
pub mod Shown
pub mod Waited
pub mod Marked
pub mod Classes
pub mod Placed
