pub mod Utf8
pub mod Same
pub mod Grammar
pub mod Literal
