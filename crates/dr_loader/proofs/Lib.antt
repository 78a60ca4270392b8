pub mod Paging
pub mod Answering
