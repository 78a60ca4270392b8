pub mod Headers
pub mod Next
pub mod Pages
pub mod Loads
