pub mod Words
pub mod Lexing
pub mod Again
pub mod Texts
pub mod ReadWords
pub mod ReadEvents
pub mod ReadTexts
