-- What a written list of the one table's names reads back as. Assumes nothing.
use mathlib.Core.Path.{◌≡◌, refl}
use mathlib.Core.Bool.{true}
use mathlib.Core.List.{List, [], ◌∷◌}
use Prim.Native.Nat.{ℕ}
use borrow.Author.Tests.{ltb-true, ltb-false}
use lib.Dec.{ltb}
use lib.ListN.{length, get_or}
use Rattle.answer.specs.Answer.{Out, refused, done, ◌>>=◌}
use Rattle.answer.proofs.Laws.{split, un_done}
use Rattle.commas.specs.Cut.{cut, join, every, nameable}
use Rattle.commas.proofs.CutLaws.{names_back}
use Rattle.names.specs.Tables.{all_names}
use Rattle.names.specs.Spelled.{name_at}
use Rattle.names.proofs.RowLaws.{entry_in, entry_out}
use Rattle.names.proofs.TableLaws.{name_nameable}
use Rattle.lists.specs.Lists.{names_by}

with_name : (x : List ℕ) (w : Out (List (List ℕ))) (names : List (List ℕ)) → nameable x ≡ true
    → ((xs : List (List ℕ)) → w ≡ done xs → every nameable xs ≡ true) → (w >>= (λ xs. done (x ∷ xs))) ≡ done names → every nameable names ≡ true
unfolding ◌>>=◌
with_name x (refused r) names h k e = cc
with_name x (done xs) names h k e = rw (← un_done e, h) (k xs refl)

-- every name of such a list may stand in one,
pub table_nameable : (rows : List ℕ) (names : List (List ℕ)) → names_by (name_at all_names) rows ≡ done names → every nameable names ≡ true
unfolding names_by ◌>>=◌
table_nameable [] names e = rw (← un_done e)
table_nameable (r ∷ rs) names e =
    split (ltb r (length all_names))
    (λ t.
    let h = ltb-true r (length all_names) t in
    with_name (get_or all_names r []) (names_by (name_at all_names) rs) names (name_nameable r h) (table_nameable rs) (rw (entry_in [] all_names r h) at e))
    (λ f. cc (rw (entry_out [] all_names r (ltb-false r (length all_names) f)) at e))

-- so the list is cut into just those names
pub table_back : (rows : List ℕ) (names : List (List ℕ)) → names_by (name_at all_names) rows ≡ done names → cut (join names) ≡ names
table_back rows names e = names_back names (table_nameable rows names e)
