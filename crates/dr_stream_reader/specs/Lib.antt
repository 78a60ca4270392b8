pub mod Records
pub mod Standings
pub mod Headers
pub mod Reading
pub mod Images
