pub mod Quiet
pub mod Keeping
pub mod Counting
pub mod Zeros
pub mod Advancing
