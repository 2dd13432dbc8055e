-- The extension names never decide: a choice with them left in one list is the choice with them removed from both. And a
-- side's strict name is in the list that it writes just if it prefers it. Assumes nothing.
use mathlib.Core.Path.{◌≡◌, refl, sym, ap, ◌∙◌}
use mathlib.Core.Bool.{Bool, true, false, not, ◌&&◌, ◌||◌, and-false}
use mathlib.Core.List.{List, [], ◌∷◌, ◌++◌}
use Prim.Native.Nat.{ℕ, ◌+◌, ◌<◌}
use lib.Dec.{ltb, eqb, lit<}
use lib.ListN.{length}
use borrow.Author.Tests.{eqb-true, ltb-true}
use Rattle.answer.proofs.Laws.{split, and_left, and_right}
use Rattle.commas.specs.Cut.{every}
use Rattle.names.specs.Tables.{names_of, all_names, kex_names}
use Rattle.names.specs.declared.Kind.TheVariants.{Kex}
use Rattle.choice.specs.declared.Side.{Side}
use Rattle.choice.specs.declared.Side.TheVariants.{Client, Server}
use Rattle.choice.specs.Choice.{listed, kept, first_shared}
use Rattle.choice.specs.Rows.{row_spelled, spelled_rows}
use Rattle.choice.proofs.ChoiceLaws.{client_kept, server_kept}
use Rattle.judging.specs.Tables.{Tables, below, good_list}
use Rattle.filters.specs.Picked.{member, without}
use Rattle.preferred.specs.Own.{rows, extensions, other, written_kex, chosen_kex}
use Rattle.judging.proofs.ValidLaws.{good_below}
use Rattle.preferred.proofs.OwnLaws.{good_without}
use Rattle.filters.proofs.RoomLaws.{member_append}
use Rattle.negotiation.specs.Written.{kex_list}
use Rattle.agreement.specs.Both.{client_strict, server_strict, extension_names, apart, kex_offer}
use Rattle.agreement.proofs.NameLaws.{listed_number}

abbrev plain : List ℕ → Bool
plain name = not (listed name extension_names)

apart_is : (names : List (List ℕ)) → apart names ≡ kept plain names
unfolding apart kept
apart_is [] = refl
apart_is (m ∷ names) = split (listed m extension_names) (λ e. rw (e, apart_is names)) (λ e. rw (e, apart_is names))

all_kept : (f : List ℕ → Bool) (names : List (List ℕ)) → every f (kept f names) ≡ true
unfolding kept
all_kept f [] = refl
all_kept f (m ∷ names) = split (f m) (λ e. rw (e, e, all_kept f names)) (λ e. rw (e, all_kept f names))

module _ (client server : List (List ℕ)) where
  -- from the server's list, where the client's is without them
  pub apart_server : first_shared (apart client) server ≡ first_shared (apart client) (apart server)
  apart_server =
      rw (apart_is client, apart_is server) (sym (server_kept plain (kept plain client) server (all_kept plain client)))

  -- from the client's, where the server's is without them
  pub apart_client : first_shared client (apart server) ≡ first_shared (apart client) (apart server)
  apart_client =
      rw (apart_is client, apart_is server) (sym (client_kept plain client (kept plain server) (all_kept plain server)))

-- their numbers
abbrev extension_numbers : List ℕ
extension_numbers = extensions Client ++ extensions Server

extension_rows : extension_names ≡ spelled_rows (rows Kex extension_numbers)
unfolding row_spelled all_names kex_names
extension_rows = refl

extensions_good : good_list Kex extension_numbers ≡ true
unfolding good_list Rattle.judging.specs.Tables.all below names_of kex_names
extensions_good = refl

extension_number : (n : ℕ) → n < length (names_of Kex) → listed (row_spelled (0 + n)) extension_names ≡ member n extension_numbers
extension_number n l =
    ap (λ (names : List (List ℕ)). listed (row_spelled (0 + n)) names) extension_rows
    ∙ listed_number Kex n l extension_numbers extensions_good

-- dropping some of them before changes nothing
apart_without : (dropped : List ℕ) → ((n : ℕ) → member n extension_numbers ≡ false → member n dropped ≡ false)
    → (ns : List ℕ) → below (length (names_of Kex)) ns ≡ true
    → apart (spelled_rows (rows Kex (without dropped ns))) ≡ spelled_rows (rows Kex (without extension_numbers ns))
unfolding apart without kept below
apart_without dropped among [] g = refl
apart_without dropped among (n ∷ ns) g =
    let count = length (names_of Kex) in
    let ih = apart_without dropped among ns (and_right (ltb n count) (below count ns) g) in
    let one = extension_number n (ltb-true n count (and_left (ltb n count) (below count ns) g)) in
    split (member n extension_numbers)
    (λ e. split (member n dropped) (λ h. rw (h, e, ih)) (λ h. rw (h, one, e, ih)))
    (λ e. rw (among n e, one, e, ih))

or_left : (a b : Bool) → (a || b) ≡ false → a ≡ false
or_left true b h = h
or_left false b h = refl

or_right : (a b : Bool) → (a || b) ≡ false → b ≡ false
or_right true b h = cc
or_right false b h = h

-- what one side drops is among them
one_side : (side : Side) (n : ℕ) → member n extension_numbers ≡ false → member n (extensions (other side)) ≡ false
one_side side n h = go side
  where
    both : (member n (extensions Client) || member n (extensions Server)) ≡ false
    both = sym (member_append n (extensions Client) (extensions Server)) ∙ h

    go : (side : Side) → member n (extensions (other side)) ≡ false
    go Client = or_right (member n (extensions Client)) (member n (extensions Server)) both
    go Server = or_left (member n (extensions Client)) (member n (extensions Server)) both

without_member : (dropped : List ℕ) (n : ℕ) (ns : List ℕ) → member n (without dropped ns) ≡ (not (member n dropped) && member n ns)
unfolding without kept member
without_member dropped n [] = sym (and-false (not (member n dropped)))
without_member dropped n (m ∷ ns) =
    let ih = without_member dropped n ns in
    split (eqb m n)
    (λ e. let q = ap (λ (x : ℕ). member x dropped) (eqb-true m n e) in
    split (member m dropped) (λ h. rw (h, ih, ← q, h)) (λ h. rw (h, e, ← q, h)))
    (λ e. split (member m dropped) (λ h. rw (h, ih, e)) (λ h. rw (h, e, ih)))

module _ (t : Tables) (g : good_list Kex t.kex ≡ true) where
  -- the own list to choose from is the written one without them
  pub apart_kex : kex_offer t ≡ spelled_rows (chosen_kex t)
  unfolding written_kex chosen_kex
  apart_kex = apart_without (extensions (other t.side)) (one_side t.side) t.kex (good_below Kex t.kex g)

  kept_listed : (n : ℕ) → n < length (names_of Kex) → member n (extensions (other t.side)) ≡ false
      → listed (row_spelled (0 + n)) (kex_list t) ≡ member n t.kex
  unfolding written_kex
  kept_listed n l h =
      listed_number Kex n l (without (extensions (other t.side)) t.kex) (good_without Kex (extensions (other t.side)) t.kex g)
      ∙ without_member (extensions (other t.side)) n t.kex
      ∙ ap (λ (b : Bool). not b && member n t.kex) h

  pub strict_client : t.side ≡ Client → listed client_strict (kex_list t) ≡ member 11 t.kex
  unfolding names_of row_spelled all_names kex_names member
  strict_client s = kept_listed 11 (lit< tt) (rw s)

  pub strict_server : t.side ≡ Server → listed server_strict (kex_list t) ≡ member 12 t.kex
  unfolding names_of row_spelled all_names kex_names member
  strict_server s = kept_listed 12 (lit< tt) (rw s)
