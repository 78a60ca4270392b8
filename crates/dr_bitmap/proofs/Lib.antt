pub mod Counts
pub mod Leasts
pub mod Walks
