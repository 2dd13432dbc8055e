pub mod Own
pub mod Defaults
