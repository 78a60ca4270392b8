pub mod Driving
pub mod Leaving
