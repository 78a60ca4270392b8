pub mod Named
pub mod Judging
