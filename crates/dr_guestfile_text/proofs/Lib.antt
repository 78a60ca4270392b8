pub mod WritingParts
