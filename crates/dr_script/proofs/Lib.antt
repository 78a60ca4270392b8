pub mod Reading
pub mod Repeats
pub mod Runs
pub mod Fits
pub mod Halts
