pub mod PlaceLaws
mod StepLaws
pub mod TypeLaws
