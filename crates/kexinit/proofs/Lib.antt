pub mod RoomLaws
pub mod TableLaws
pub mod KexLaws
pub mod WrittenLaws
pub mod ExampleLaws
