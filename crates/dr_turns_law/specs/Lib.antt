pub mod Deposits
pub mod Advances
