pub mod Room
pub mod Views
pub mod Sizes
pub mod Tests
pub mod Answered
