pub mod TriedLaws
pub mod AddedLaws
pub mod OffsetLaws
