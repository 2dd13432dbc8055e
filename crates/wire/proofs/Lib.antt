pub mod FieldLaws
pub mod RunLaws
pub mod ShowLaws
pub mod WalkLaws
pub mod UniqueLaws
pub mod BackLaws
pub mod StepLaws
