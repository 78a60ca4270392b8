pub mod Permissions
pub mod Masks
pub mod Calls
pub mod Kept
