pub mod RowLaws
pub mod MadeLaws
pub mod FitLaws
pub mod RoomLaws
