pub mod PlaceLaws
pub mod WalkLaws
pub mod FirstLaws
pub mod ChoiceLaws
pub mod SharedLaws
