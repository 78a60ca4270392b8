pub mod Turns
pub mod Beginning
