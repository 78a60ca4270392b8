pub mod May
pub mod Operations
