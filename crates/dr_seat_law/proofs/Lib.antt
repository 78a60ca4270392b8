pub mod FirstEntries
pub mod Seating
