pub mod RecordLaws
pub mod NameLaws
pub mod StagedLaws
pub mod ReadLaws
pub mod OwnLaws
pub mod KnownLaws
pub mod FewLaws
pub mod KexInitLaws
