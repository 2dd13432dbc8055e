use mathlib.Core.List.{[]}
use mathlib.Core.Path.{◌≡◌}
use Rattle.std.specs.Iterator.Adapters.{zip_first, zip_second}
use Rattle.std.specs.Slice.Iter.{iter_rest}
use Rattle.filters.specs.Made.{row_list, certified}
use Rattle.filters.proofs.certified.Given as goal

abbrev pub invariant-loop-kind : goal.invariant-loop-kind
invariant-loop-kind l =
    certified (row_list []) l.key l.held l.kinds l.ids
    ≡ certified l.names l.key l.held (iter_rest (zip_first l.kind-iterator)) (iter_rest (zip_second l.kind-iterator))
