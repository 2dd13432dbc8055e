pub mod Fields
pub mod Walk
pub mod Shown
pub mod Answers
