pub mod Tables
pub mod Turns
pub mod Rounds
pub mod Counted
pub mod Sheets
pub mod Taking
pub mod Whole
pub mod Smallest
