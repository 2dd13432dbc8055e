pub mod OpenLaws
pub mod PlaceLaws
mod RestLaws
mod StepLaws
