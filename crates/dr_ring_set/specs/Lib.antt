pub mod Seated
pub mod Batches
