pub mod Numbers
pub mod Puts
pub mod Reading
pub mod Feed
pub mod Book
