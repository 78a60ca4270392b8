pub mod Cutting
pub mod Names
pub mod Journals
