-- What is written reads back, with any bytes after it, wherever the reader is. Assumes nothing.
use mathlib.Core.Path.{◌≡◌, refl}
use mathlib.Core.Bool.{true, not}
use mathlib.Core.List.{List, [], ◌∷◌, ◌++◌}
use Prim.Native.Nat.{ℕ, ◌+◌, ◌≤◌}
use native.Mathlib.Omega.{arith}
use borrow.Author.Tests.{le-leb}
use lib.ListN.{length}
use Rattle.answer.specs.Answer.{done, ◌>>=◌}
use Rattle.answer.proofs.Laws.{and_left, and_right}
use Rattle.put.specs.Written.{word as encoded}
use Rattle.text.specs.Same.{ascii}
use Rattle.text.proofs.Utf8Laws.{ascii_utf8}
use Rattle.commas.specs.Cut.{join, empty, no_comma, listable, nameable, every}
use Rattle.commas.proofs.CutLaws.{every_so, join_ascii, all_ascii, names_back}
use Rattle.wire.proofs.BackLaws.{run_back}
use Rattle.namelist.specs.Judged.{judged, judged_list, name_list, standing}

-- names that may stand are judged fine, up to 1,025 of them
judged_back : (ns : List (List ℕ)) (k : ℕ) → every standing ns ≡ true → k + length ns ≤ 1025 → judged k ns ≡ done tt
unfolding judged ◌>>=◌
judged_back [] k h l = refl
judged_back (n ∷ ns) k h l =
    rw (
      and_left (standing n) (every standing ns) h,
      le-leb k 1024 (omega arith),
      judged_back ns (k + 1) (and_right (standing n) (every standing ns) h) (omega arith),
    )

module _ (ns : List (List ℕ)) (h : every nameable ns ≡ true) where
  all_standing : every standing ns ≡ true
  unfolding standing
  all_standing =
      every_so nameable standing
      (λ x e.
      rw (and_left (not (empty x)) (no_comma x) (and_left (listable x) (ascii x) e), and_right (listable x) (ascii x) e)) ns h

  -- a written list reads back, if it is no longer than a reader takes
  pub list_back : (i : ℕ) (r : List ℕ) → length ns ≤ 1025 → length (join ns) ≤ 16384
      → name_list (record { at = i; left = encoded (length (join ns)) ++ (join ns ++ r) })
      ≡ done (record { place = record { start = i + 4; len = length (join ns) }; bytes = join ns }, record { at = i + 4 + length (join ns); left = r })
  unfolding name_list judged_list ◌>>=◌
  list_back i r k l =
      rw (
        run_back i (join ns) r (omega arith),
        le-leb (length (join ns)) 16384 l,
        ascii_utf8 (join ns) (join_ascii ns (all_ascii ns h)),
        names_back ns h,
        judged_back ns 0 all_standing (omega arith),
      )
