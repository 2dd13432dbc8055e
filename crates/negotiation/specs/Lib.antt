pub mod KexInit
pub mod Written
pub mod Read
pub mod Rows
pub mod Known
