pub mod Firsts
pub mod Least
pub mod Buffers
pub mod Turns
pub mod Between
pub mod Due
