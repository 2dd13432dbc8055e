pub mod JudgeLaws
pub mod ValidLaws
