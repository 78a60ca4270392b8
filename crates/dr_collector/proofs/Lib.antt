pub mod Seating
pub mod Filling
pub mod Gathering
pub mod Beginning
pub mod Parts
pub mod AllParts
pub mod Pushes
