pub mod Tables
pub mod Numbered
pub mod Spelled
pub mod Constant
pub mod Lookup
