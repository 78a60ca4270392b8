pub mod Collected
pub mod Batched
pub mod Pending
