pub mod Batches
pub mod Harvests
