pub mod Grammar
pub mod Loading
pub mod Samples
pub mod Faults
