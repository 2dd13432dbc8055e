-- A field is refused where it stands, which is within the input, and what is left after it is the rest of the input.
-- Assumes nothing.
use mathlib.Core.Path.{◌≡◌}
use mathlib.Core.Bool.{true, ◌&&◌}
use mathlib.Core.List.{List, [], ◌∷◌}
use mathlib.Core.Option.{Option, some, none}
use Prim.Native.Nat.{ℕ, ◌+◌, ◌≤◌}
use native.Mathlib.Omega.{arith}
use borrow.Author.Tests.{leb-true}
use lib.Dec.{leb}
use lib.ListN.{length, length-drop}
use Rattle.answer.specs.Refusal.{Refusal}
use Rattle.answer.specs.Answer.{Out}
use Rattle.answer.proofs.Laws.{split}
use Rattle.text.specs.Same.{same}
use Rattle.text.specs.Utf8.{utf8}
use Rattle.wire.specs.Fields.{At, here, skip, byte, word, run, string, end}
use Rattle.commas.specs.Cut.{cut}
use Rattle.namelist.specs.Judged.{most_list_bytes, most_before, standing, judged, judged_list, name_list}
use Rattle.filters.specs.Picked.{member}
use Rattle.negotiation.specs.KexInit.{offer}
use Rattle.negotiation.specs.Read.{settle, settle_mac, needs_mac, no_mac}
use Rattle.refusals.specs.Refusals.{Within}
use Rattle.refusals.proofs.EndsLaws.{Ends, stops, gives, next, test, at_field}

-- a reader that is somewhere in an input of n bytes
abbrev pub On : ℕ → At → Type 0
On n c = c.at + length c.left ≡ n

pub start : (s : List ℕ) (i : ℕ) → i ≤ length s → On (length s) (here s i)
start s i h = simp length-drop (omega arith)

moved : (n k : ℕ) (c : At) → On n c → leb k (length c.left) ≡ true → On n (skip k c)
moved n k c o h = let l = leb-true k (length c.left) h in simp length-drop (omega arith)

module _ (ns : List ℕ) (n : ℕ) where
  pub fault : (k i : ℕ) → member k ns ≡ true → i ≤ n → Within ns n (record { number = k; offset = i })
  fault k i e l = record { known = e; inside = l }

  -- one that goes on in the same input
  abbrev pub Goes : {X : Type 0} → Out (X × At) → Type 0
  Goes m = Ends (Within ns n) (λ x. On n x.1) m

  module _ (two : member 2 ns ≡ true) where
    pub byte_goes : (c : At) → On n c → Goes (byte c)
    unfolding byte
    byte_goes c o = next _ _ (test 2 c.at (leb 1 (length c.left)) (fault 2 c.at two (omega arith))) (λ u h. gives (moved n 1 c o h))

    pub word_goes : (c : At) → On n c → Goes (word c)
    unfolding word
    word_goes c o = next _ _ (test 2 c.at (leb 4 (length c.left)) (fault 2 c.at two (omega arith))) (λ u h. gives (moved n 4 c o h))

    pub run_goes : (c : At) → On n c → Goes (run c)
    unfolding run
    run_goes c o =
        next _ _ (word_goes c o) (λ x p.
        next _ _ (test 2 c.at (leb x.0 (length x.1.left)) (fault 2 c.at two (omega arith))) (λ u h. gives (moved n x.0 x.1 p h)))

    module _ (three : member 3 ns ≡ true) where
      pub string_goes : (c : At) → On n c → Goes (string c)
      unfolding string
      string_goes c o =
          next _ _ (run_goes c o) (λ x p. next _ _ (test 3 c.at (utf8 x.0.bytes) (fault 3 c.at three (omega arith))) (λ u h. gives p))

      -- a name-list's own faults are 2 and 3
      judged_ends : (k : ℕ) (names : List (List ℕ)) → Ends (λ (r : Refusal). member r.number ns ≡ true) (λ (u : Unit {0}). Unit {0}) (judged k names)
      unfolding judged
      judged_ends k [] = gives tt
      judged_ends k (name ∷ names) =
          next _ _ (test 3 0 (standing name) three) (λ u h. next _ _ (test 2 0 (leb k most_before) two) (λ u' h'. judged_ends (k + 1) names))

      pub bytes_ends : (s : List ℕ) → Ends (λ (r : Refusal). member r.number ns ≡ true) (λ (u : Unit {0}). Unit {0}) (judged_list s)
      unfolding judged_list
      bytes_ends s = next _ _ (test 3 0 (utf8 s) three) (λ u h. judged_ends 0 (cut s))

      names_goes : (c : At) → On n c → Goes (name_list c)
      unfolding name_list
      names_goes c o =
          next _ _ (run_goes c o) (λ x p.
          next _ _ (test 2 c.at (leb (length x.0.bytes) most_list_bytes) (fault 2 c.at two (omega arith))) (λ u h.
          next _ _ (at_field c.at (judged_list x.0.bytes) (λ r e. fault r.number c.at e (omega arith)) (bytes_ends x.0.bytes)) (λ u' h'.
          gives p)))

      pub offer_goes : (c : At) → On n c → Goes (offer c)
      unfolding offer
      offer_goes c o = next _ _ (names_goes c o) (λ x p. gives p)

  pub end_ends : member 5 ns ≡ true → (c : At) → On n c → Ends (Within ns n) (λ (u : Unit {0}). Unit {0}) (end c)
  unfolding end
  end_ends five c o =
      split (leb (length c.left) 0) (λ t. rw t (gives tt)) (λ t. rw t (stops (fault 5 c.at five (omega arith))))

  -- a choice is refused where its list stands
  abbrev pub Settles : Out (List ℕ) → Type 0
  Settles m = Ends (Within ns n) (λ (name : List ℕ). Unit {0}) m

  pub settle_ends : (k : ℕ) → member k ns ≡ true → (c : At) → On n c → (o : Option (List ℕ)) → Settles (settle k c.at o)
  unfolding settle
  settle_ends k e c q none = stops (fault k c.at e (omega arith))
  settle_ends k e c q (some name) = gives tt

  pub mac_ends : member 13 ns ≡ true → (cipher : List ℕ) (c : At) → On n c → (o : Option (List ℕ)) → Settles (settle_mac cipher c.at o)
  unfolding settle_mac
  mac_ends e cipher c q none = split (needs_mac cipher) (λ t. rw t (stops (fault 13 c.at e (omega arith)))) (λ t. rw t (gives tt))
  mac_ends e cipher c q (some mac) =
      split (needs_mac cipher && same mac no_mac) (λ t. rw t (stops (fault 13 c.at e (omega arith)))) (λ t. rw t (gives tt))
