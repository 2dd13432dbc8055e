pub mod Picked
pub mod Items
pub mod Rows
pub mod Made
