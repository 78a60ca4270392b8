pub mod Lookups
pub mod NewSeats
pub mod Batches
