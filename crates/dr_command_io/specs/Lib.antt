pub mod Taking
pub mod Puts
