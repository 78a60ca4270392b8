pub mod Sample
pub mod Smallest
