pub mod Confirmation
pub mod Failure
pub mod Answers
