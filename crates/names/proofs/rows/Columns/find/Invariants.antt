-- The rows that are left still give the answer. Assumes nothing.
use Prim.Native.Nat.{◌-◌}
use mathlib.Core.Path.{◌≡◌}
use Rattle.names.specs.Lookup.{row_from}
use Rattle.names.proofs.rows.Columns.find.Given as goal

abbrev pub invariant-loop-row : goal.invariant-loop-row
invariant-loop-row l =
    let t = l.self in
    row_from t.spellings.now t.starts.now t.lengths.now l.name l.from (l.to - l.from) ≡ row_from t.spellings.now t.starts.now t.lengths.now l.name l.row (l.to - l.row)
