pub mod Input
pub mod Puts
pub mod Ended
pub mod Top
pub mod Commands
