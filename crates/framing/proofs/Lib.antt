mod CodeLaws
mod OpeningLaws
mod StoreLaws
pub mod WriteLaws
mod SealingLaws
pub mod ReadLaws
pub mod ReadBackLaws
