pub mod Kinds
pub mod Numbers
