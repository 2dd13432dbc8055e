pub mod Protected
pub mod Both
pub mod Ended
pub mod Demand
