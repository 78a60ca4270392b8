pub mod Fronts
pub mod Places
pub mod Stores
pub mod Knowing
pub mod Allowed
pub mod Opening
pub mod Notes
pub mod Masks
