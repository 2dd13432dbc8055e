pub mod Clear
pub mod Answers
