pub mod EndLaws
mod PlainLaws
pub mod CutLaws
