pub mod Pages
pub mod Within
pub mod AllPages
pub mod Inverses
pub mod Spaces
