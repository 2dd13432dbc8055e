pub mod RowLaws
pub mod ColumnLaws
pub mod PlaceLaws
pub mod TableLaws
pub mod LookupLaws
pub mod SpellLaws
pub mod ConstantLaws
pub mod UniqueLaws
