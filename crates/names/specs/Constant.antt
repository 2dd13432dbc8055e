-- The one table of the code, as lent columns.
use Rattle.std.specs.Prelude.{◌≡◌, List, ℕ}
use Rattle.names.specs.declared.rows.Columns.{Columns}
use Rattle.names.specs.declared.tables.TheConstants.{SPELLINGS, STARTS, LENGTHS}

pub record AreConstant (t : Columns) : Type 0 where
  pub spellings : ◌≡◌ {A = List ℕ} t.spellings.now SPELLINGS
  pub starts : ◌≡◌ {A = List ℕ} t.starts.now STARTS
  pub lengths : ◌≡◌ {A = List ℕ} t.lengths.now LENGTHS
