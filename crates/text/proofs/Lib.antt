pub mod TableLaws
pub mod SameLaws
pub mod StdLaws
pub mod Utf8Laws
pub mod GrammarLaws
pub mod Utf8Examples
