pub mod WalkLaws
pub mod StoreLaws
pub mod ListLaws
pub mod TableLaws
