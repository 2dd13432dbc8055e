-- A push keeps an own list tidy: 0 stands after the rows. Assumes nothing.
use mathlib.Core.Path.{◌≡◌, sym, ap, ◌∙◌}
use mathlib.Core.List.{List}
use Prim.Native.Nat.{ℕ, ◌+◌, ◌-◌, ◌≤◌, ◌<◌}
use native.Mathlib.Omega.{arith}
use lib.ListN.{length, drop, set, replicate, length-set}
use lib.Seq.{drop-drop}
use Rattle.std.proofs.lemmas.List.{drop-set-lt, drop-replicate}
use Rattle.filters.specs.declared.rows.RowList.TheInside.{Inside}
use Rattle.filters.specs.Rows.{most_own, Tidy}

pub tidy_pushed : (l : Inside) (n : ℕ) → Tidy l → l.len < most_own → Tidy (record { rows = set l.rows l.len n; len = l.len + 1 })
tidy_pushed l n t h =
    let same : length (set l.rows l.len n) ≡ most_own = rw length-set t.1 in
    let less : most_own - (l.len + 1) ≡ most_own - l.len - 1 = omega arith in
    let after : l.len < l.len + 1 = omega arith in (
      rw same (omega (arith, h)),
      same,
      ap (λ k. replicate k 0) less
          ∙ sym (drop-replicate 1 (most_own - l.len) 0)
          ∙ ap (drop 1) t.2
          ∙ drop-drop 1 l.len l.rows
          ∙ sym (drop-set-lt (l.len + 1) l.rows l.len n after),
    )
