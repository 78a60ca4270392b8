pub mod Answered
pub mod Throttled
