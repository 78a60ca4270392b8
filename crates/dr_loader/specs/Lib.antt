pub mod Puts
pub mod Loads
