pub mod Laws
pub mod WalkLaws
