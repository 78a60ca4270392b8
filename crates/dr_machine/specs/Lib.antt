pub mod Views
pub mod Tied
pub mod Copies
pub mod Answers
pub mod Deposited
