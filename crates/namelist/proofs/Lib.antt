pub mod JudgeLaws
pub mod BackLaws
