pub mod Written
pub mod Runs
