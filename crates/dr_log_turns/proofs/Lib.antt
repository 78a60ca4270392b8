pub mod Rooms
pub mod Least
pub mod Advancing
pub mod Copying
pub mod Reading
pub mod Throttling
pub mod Used
