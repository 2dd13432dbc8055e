pub mod EndsLaws
pub mod FieldLaws
pub mod CutLaws
pub mod WhereLaws
pub mod BrokeLaws
pub mod ReaderLaws
