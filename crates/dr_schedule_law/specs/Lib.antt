pub mod Settled
pub mod Reaps
pub mod Schedule
pub mod Waiting
pub mod Timed
pub mod Bound
pub mod Counts
pub mod Spent
