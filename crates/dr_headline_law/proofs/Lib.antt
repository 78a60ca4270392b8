pub mod Stop
pub mod Promises
