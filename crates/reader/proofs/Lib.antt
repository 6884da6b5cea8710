mod Reading
mod Splits
