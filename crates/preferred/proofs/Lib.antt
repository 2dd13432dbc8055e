pub mod OwnLaws
pub mod RangeLaws
pub mod ExtensionLaws
pub mod HandedLaws
pub mod DefaultLaws
