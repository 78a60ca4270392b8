pub mod Rest
pub mod Legally
pub mod Running
pub mod Writes
pub mod Outside
pub mod Rounds
pub mod Operations
