pub mod WordParts
pub mod LineParts
pub mod Numerals
