-- What the code's tests and calls say on the way, one law for each answer. Assumes nothing.
use mathlib.Core.Path.{◌≡◌, refl, sym, ◌∙◌}
use mathlib.Core.Bool.{Bool, true, false}
use lib.Dec.{eqb}
use borrow.Author.Tests.{eqb-true, eqb-false}
use mathlib.Core.List.{List, [], ◌∷◌}
use mathlib.Core.Option.{Option, some, none, or_else}
use Prim.Native.Nat.{ℕ, ◌≤◌, ◌<◌}
use native.Mathlib.Nat.{add-zero, add-sub_cancel_left, le_refl}
use native.Mathlib.Omega.{arith}
use lib.ListN.{length, get_or, take, drop}
use lib.Seq.{take-take, take-length, length-take-le}
use Rattle.wire.specs.declared.cursor.Cursor.{Cursor}
use Rattle.wire.specs.declared.place.Place.{Place}
use Rattle.std.specs.Prelude.{Option as Maybe, Some, None}
use Rattle.std.specs.List.{position}
use Rattle.std.specs.Option.{unwrap_or}
use Rattle.wire.specs.Fields.{here}
use Rattle.commas.specs.Cut.{cut}
use Rattle.wire.specs.Walk.{next_name}
use Rattle.wire.specs.Shown.{part}
use Rattle.wire.specs.Answers.{next_of}
use Rattle.wire.proofs.WalkLaws.{walk_end}
use Rattle.wire.proofs.WalkLaws.{names_left, name_inside, name_less}
use Rattle.choice.specs.declared.Side.{Side}
use Rattle.choice.specs.declared.Side.TheVariants.{Client, Server}
use Rattle.choice.specs.Rows.{chosen_row, offered, row_for, own_first, peer_first, first_both, place_of, row_at}
use Rattle.choice.proofs.PlaceLaws.{row_in, row_out, place_within, place_some, place_past, place_or, first_at, narrow, place_none}

-- the own rows that are left at the start, and how many are left
pub own_start : {Y : Type 0} (test : ℕ → Y → Bool) (own : List ℕ) (y : Y) → place_of test own y ≡ place_of test (take (length own) own) y
own_start test own y = rw take-length

pub own_count : (own : List ℕ) (best : ℕ) → best ≤ length own → best ≡ length (take best own)
own_count own best h = sym (length-take-le best own h)

-- a step of the walk over the peer's names
module _ (s : List ℕ) (i : ℕ) (r : Maybe (Place × Cursor)) (told : next_of s r ≡ next_name (here s i)) where
  no_more : r ≡ None → cut (drop i s) ≡ []
  no_more e = walk_end (here s i) (sym (rw e at told))

  one_more : (p : Place) (c : Cursor) (name : List ℕ) → r ≡ Some (p, c) → name ≡ part p s → cut (drop i s) ≡ name ∷ cut (drop c.at s)
  one_more p c name e f = rw f (names_left s i r told p c e)

  module _ (spells : ℕ → List ℕ → Bool) (own : List ℕ) where
    module _ (whole : Option ℕ) (inv : whole ≡ peer_first spells own (cut (drop i s))) where
      pub peer_none : r ≡ None → none ≡ whole
      unfolding peer_first
      peer_none e = rw (inv, no_more e)

      module _ (p : Place) (c : Cursor) (name : List ℕ) (e : r ≡ Some (p, c)) (f : name ≡ part p s) (o : Maybe ℕ)
          (at : o ≡ position (λ row. spells row name) own) where
        pub peer_within : (k : ℕ) → o ≡ Some k → k < length own
        peer_within k h = (place_some spells name own o at k h).1

        pub peer_here : (k : ℕ) → o ≡ Some k → some (get_or own k 0) ≡ whole
        unfolding peer_first row_for or_else
        peer_here k h =
            let q = place_some spells name own o at k h in rw (inv, one_more p c name e f, first_at, ← q.0, ← row_in own k q.1)

        pub peer_on : o ≡ None → whole ≡ peer_first spells own (cut (drop c.at s))
        unfolding peer_first row_for or_else
        peer_on h =
            let q = place_past spells name own o at h in
            rw (inv, one_more p c name e f, first_at, q, ← row_out own (length own) (le_refl (length own)))

    module _ (names : List (List ℕ)) (best : ℕ) (b : best ≤ length own)
        (inv : place_of (offered spells) own names ≡ place_of (offered spells) (take best own) (cut (drop i s))) where
      pub own_done : (v : Option ℕ) → r ≡ None → v ≡ row_at own best → v ≡ own_first spells own names
      unfolding own_first
      own_done v e h = rw (h, first_at, inv, no_more e, place_none, length-take-le best own b)

      module _ (p : Place) (c : Cursor) (name : List ℕ) (e : r ≡ Some (p, c)) (f : name ≡ part p s) (o : Maybe ℕ)
          (told_at : o ≡ position (λ row. spells row name) (take best own)) (k : ℕ) (or : k ≡ unwrap_or o best) where
        at : k ≡ place_of spells (take best own) name
        at = or ∙ place_or spells name (take best own) o told_at best (own_count own best b)

        nearer : k ≤ best
        nearer = rw at (let h = place_within spells name (take best own) in rw length-take-le at h)

        pub own_within : k ≤ length own
        own_within = let h = nearer in omega arith

        pub own_on : place_of (offered spells) own names ≡ place_of (offered spells) (take k own) (cut (drop c.at s))
        own_on = rw (inv, one_more p c name e f, narrow, ← at, take-take k best own nearer)

        -- no own row stands before the first
        pub own_best : (v : Option ℕ) → k ≡ 0 → v ≡ row_at own k → v ≡ own_first spells own names
        unfolding own_first place_of
        own_best v z h = rw (h, first_at, own_on, z)

-- both first, at the list's first name
module _ (s own : List ℕ) (spells : ℕ → List ℕ → Bool) (r : Maybe (Place × Cursor)) (told : next_of s r ≡ next_name (here s 0)) where
  pub both_unlisted : r ≡ None → false ≡ first_both spells own (cut s)
  unfolding first_both
  both_unlisted e = rw (no_more s 0 r told e) (none_first own)
    where
      none_first : (o : List ℕ) → false ≡ first_both spells o []
      none_first [] = refl
      none_first (x ∷ o) = refl

  pub both_unowned : (b : Bool) → b ≡ eqb (length own) 0 → b ≡ true → false ≡ first_both spells own (cut s)
  unfolding first_both
  both_unowned b e t = none_own own (eqb-true (length own) 0 (rw e at t))
    where
      none_own : (o : List ℕ) → length o ≡ 0 → false ≡ first_both spells o (cut s)
      none_own [] e = refl
      none_own (x ∷ o) e = absurd (omega arith)

  pub both_firsts : (p : Place) (c : Cursor) (name : List ℕ) (b z : Bool) (row : ℕ) → r ≡ Some (p, c) → name ≡ part p s
      → z ≡ eqb (length own) 0 → z ≡ false → b ≡ spells row name → row ≡ get_or own 0 0 → b ≡ first_both spells own (cut s)
  unfolding first_both
  both_firsts p c name b z row e f g h t k =
      rw (one_more s 0 r told p c name e f) (rw k at t ∙ some_own own (eqb-false (length own) 0 (rw g at h)))
    where
      some_own : (o : List ℕ) → (length o ≡ 0 → ⊥) → spells (get_or o 0 0) name ≡ first_both spells o (name ∷ cut (drop c.at s))
      some_own [] e = absurd (e refl)
      some_own (x ∷ o) e = refl

pub ruleset both_laws = (name_inside, both_unlisted, both_unowned, both_firsts)

pub ruleset peer_laws = (name_inside, name_less, peer_none, peer_within, peer_here, peer_on)

pub ruleset own_laws = (le_refl, name_inside, name_less, own_start, own_count, own_done, own_best, own_within, own_on)

-- by sides
module _ (spells : ℕ → List ℕ → Bool) (own : List ℕ) (names : List (List ℕ)) (v : Option ℕ) where
  pub client_first : (side : Side) → side ≡ Client → v ≡ own_first spells own names → v ≡ chosen_row spells side own names
  unfolding chosen_row
  client_first side e h = rw e h

  pub server_first : (side : Side) → side ≡ Server → v ≡ peer_first spells own names → v ≡ chosen_row spells side own names
  unfolding chosen_row
  server_first side e h = rw e h

pub ruleset side_laws = (client_first, server_first)
