pub mod Places
pub mod Masked
pub mod Samples
