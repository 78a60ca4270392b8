pub mod Lexing
pub mod PlainLines
pub mod Again
pub mod OpsAgain
pub mod SlotsAgain
pub mod SectionsAgain
pub mod GuestAgain
