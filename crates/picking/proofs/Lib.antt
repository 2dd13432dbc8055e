pub mod PickLaws
pub mod UniqueLaws
