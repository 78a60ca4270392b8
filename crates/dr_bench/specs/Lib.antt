pub mod Bench
pub mod Records
