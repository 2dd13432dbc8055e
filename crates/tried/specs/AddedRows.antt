-- What document 01 adds, or says beside the Rust: all its rows as one table.
use Rattle.std.specs.Prelude.{List, ◌++◌}
use Rattle.tried.specs.Row.{Row}
use Rattle.tried.specs.TableRows.{table_rows}
use Rattle.tried.specs.LongRows.{long_rows}
use Rattle.tried.specs.RoomRows.{room_rows}
use Rattle.tried.specs.PlaceRows.{place_rows}
use Rattle.tried.specs.NameRows.{name_rows}

abbrev pub added_rows : List Row
added_rows = table_rows ++ (long_rows ++ (room_rows ++ (place_rows ++ name_rows)))
