pub mod StillDeposited
pub mod Acting
pub mod Waiting
pub mod Running
pub mod Used
