pub mod Powers
pub mod Pushing
pub mod Machines
pub mod Leaving
pub mod Depositing
pub mod Advancing
pub mod Copying
pub mod Used
