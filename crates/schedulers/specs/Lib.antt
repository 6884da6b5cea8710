pub mod Choosers
pub mod Foremost
pub mod Hashes
pub mod Meanings
pub mod Foremosts
pub mod Samples
