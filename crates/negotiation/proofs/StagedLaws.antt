-- One list and its choice: what the code reads by rows is what the definition reads by names. Assumes nothing.
use mathlib.Core.Path.{◌≡◌, refl, ◌∙◌}
use mathlib.Core.Bool.{Bool, true, false, ◌&&◌}
use mathlib.Core.List.{List}
use mathlib.Core.Option
use mathlib.Core.Option.{Option, some, none}
use Prim.Native.Nat.{ℕ, ◌-◌, ◌≤◌, ◌<◌}
use native.Mathlib.Omega.{arith}
use borrow.Author.Tests.{leb-true, ltb-true, lt-ltb}
use lib.Dec.{leb, ltb, eqb, lit≤, lit<}
use Rattle.answer.specs.Answer.{Out, refused, done, pick, ◌>>=◌}
use Rattle.answer.specs.Refusal.{Refusal}
use Rattle.answer.proofs.Laws.{split, and_left, and_right}
use Rattle.wire.specs.Fields.{At, Run}
use Rattle.commas.specs.Cut.{cut, every}
use Rattle.namelist.specs.Judged.{name_list}
use Rattle.commas.proofs.CutLaws.{every_so}
use Rattle.names.specs.Tables.{first_row}
use Rattle.names.specs.declared.Kind.TheVariants.{Cipher, Mac, Compression}
use Rattle.choice.specs.declared.Side.{Side}
use Rattle.choice.specs.Choice.{chosen, both_first}
use Rattle.choice.specs.Rows.{spells_name, chosen_row, first_both, row_spelled, spelled_rows}
use Rattle.choice.proofs.ChoiceLaws.{in_table, chosen_among, chosen_named, both_named}
use Rattle.preferred.proofs.RangeLaws.{within}
use Rattle.stages.specs.declared.Rows.{Rows}
use Rattle.negotiation.specs.declared.Names.{Names}
use Rattle.picking.specs.Picking.{none_row, guessed, ruled, picked, picked_from, mac_rule}
use Rattle.picking.specs.declared.Rule.{Rule}
use Rattle.picking.specs.declared.Rule.TheVariants.{Needed, Protected, Optional}
use Rattle.negotiation.specs.KexInit.{offer}
use Rattle.negotiation.specs.Read.{settle, settle_mac, needs_mac}
use Rattle.negotiation.specs.Rows.{recorded, in_names}
use Rattle.negotiation.proofs.NameLaws.{mac_rule_lem, no_mac_lem, is_no_mac}

-- the record is made after the last step
pub in_bind : {A : Type 0} (m : Out A) (f : A → Out (Rows × Bool)) → in_names (m >>= f) ≡ (m >>= λ a. in_names (f a))
unfolding ◌>>=◌ in_names
in_bind (refused q) f = refl
in_bind (done a) f = refl

pub in_done : (k : Rows) (follows : Bool) → in_names (done (k, follows)) ≡ done (recorded k follows)
unfolding ◌>>=◌ in_names
in_done k follows = refl

-- a row that was chosen lies where the own rows lie
abbrev pub In : ℕ → ℕ → Option ℕ → Type 0
In from to none = Unit {0}
In from to (some r) = (from ≤ r) × (r < to)

module _ (side : Side) (own : List ℕ) (from to : ℕ) (w : within from to own ≡ true) (b : to ≤ 44) where
  all_in : every in_table own ≡ true
  unfolding within
  all_in =
      every_so (λ r. leb from r && ltb r to) in_table
      (λ r e. let l = ltb-true r to (and_right (leb from r) (ltb r to) e) in lt-ltb r 44 (omega arith)) own w

  chosen_in : (peer : List (List ℕ)) (o : Option ℕ) → chosen_row spells_name side own peer ≡ o → In from to o
  unfolding within
  chosen_in peer none e = tt
  chosen_in peer (some r) e =
      let h = chosen_among spells_name (λ r. leb from r && ltb r to) side own peer r w e in
      (leb-true from r (and_left (leb from r) (ltb r to) h), ltb-true r to (and_right (leb from r) (ltb r to) h))

  both_in : (peer : List (List ℕ)) → first_both spells_name own peer ≡ both_first (spelled_rows own) peer
  both_in peer = both_named own peer all_in

  module _ (rule : Rule) (n i : ℕ) (settles : Option (List ℕ) → Out (List ℕ)) (K : ℕ × Bool × At → Out (Rows × Bool))
      (K' : List ℕ → List (List ℕ) × At → Out Names) where
    abbrev no : Refusal
    no = record { number = n; offset = i }

    inner : (v : Out ℕ) (f : Bool) (d : At) → in_names ((v >>= λ r. done (r, f, d)) >>= K) ≡ (v >>= λ r. in_names (K (r, f, d)))
    unfolding ◌>>=◌ in_names
    inner (refused q) f d = refl
    inner (done r) f d = refl

    -- what is to be shown of each row that may have been chosen
    abbrev Alike : Out (Run × At) → Type 0
    Alike m =
        (t : Run) (d : At) → m ≡ done (t, d) → (o : Option ℕ) → In from to o
        → (ruled rule no o >>= λ r. in_names (K (r, guessed n && both_first (spelled_rows own) (cut t.bytes), d))) ≡ (settles (Option.map row_spelled o) >>= λ name. K' name (cut t.bytes, d))

    at_names : (names : List (List ℕ)) (d : At)
        → ((o : Option ℕ) → In from to o → (ruled rule no o >>= λ r. in_names (K (r, guessed n && both_first (spelled_rows own) names, d))) ≡ (settles (Option.map row_spelled o) >>= λ name. K' name (names, d)))
        → in_names ((ruled rule no (chosen_row spells_name side own names) >>= λ r. done (r, guessed n && first_both spells_name own names, d)) >>= K)
        ≡ (settles (chosen side (spelled_rows own) names) >>= λ name. K' name (names, d))
    at_names names d j =
        inner (ruled rule no (chosen_row spells_name side own names)) (guessed n && first_both spells_name own names) d
        ∙ rw (both_in names, ← chosen_named side own names all_in) (j (chosen_row spells_name side own names) (chosen_in names _ refl))

    at_list : (m : Out (Run × At)) → Alike m
        → in_names ((m >>= λ x. picked_from spells_name side rule no own x.0.bytes x.1) >>= K)
        ≡ ((m >>= λ x. done (cut x.0.bytes, x.1)) >>= λ x. settles (chosen side (spelled_rows own) x.0) >>= λ name. K' name x)
    unfolding ◌>>=◌ picked_from in_names
    at_list (refused q) j = refl
    at_list (done x) j = at_names (cut x.0.bytes) x.1 (j x.0 x.1 refl)

  -- one list and its choice, by rows and by names
  named : (rule : Rule) (n : ℕ) (settles : Option (List ℕ) → Out (List ℕ)) (K : ℕ × Bool × At → Out (Rows × Bool))
      (K' : List ℕ → List (List ℕ) × At → Out Names) (c : At) → Alike rule n c.at settles K K' (name_list c)
      → in_names (picked spells_name side rule n own c >>= K) ≡ (offer c >>= λ x. settles (chosen side (spelled_rows own) x.0) >>= λ name. K' name x)
  unfolding picked offer
  named rule n settles K K' c j = at_list rule n c.at settles K K' (name_list c) j

  -- what is to be shown of each row
  abbrev Each : ℕ → (ℕ × Bool × At → Out (Rows × Bool)) → (List ℕ → List (List ℕ) × At → Out Names) → At → Type 0
  Each n K K' c =
      (t : Run) (d : At) → name_list c ≡ done (t, d) → (r : ℕ) → from ≤ r → r < to
      → in_names (K (r, guessed n && both_first (spelled_rows own) (cut t.bytes), d)) ≡ K' (row_spelled r) (cut t.bytes, d)

  -- a list that needs a shared name
  module _ (n : ℕ) (K : ℕ × Bool × At → Out (Rows × Bool)) (K' : List ℕ → List (List ℕ) × At → Out Names) (c : At) (j : Each n K K' c) where
    needed_alike : Alike Needed n c.at (settle n c.at) K K' (name_list c)
    unfolding ruled settle ◌>>=◌
    needed_alike t d e none i = refl
    needed_alike t d e (some r) i = j t d e r i.0 i.1

    pub needed : in_names (picked spells_name side Needed n own c >>= K) ≡ (offer c >>= λ x. settle n c.at (chosen side (spelled_rows own) x.0) >>= λ name. K' name x)
    needed = named Needed n (settle n c.at) K K' c needed_alike

-- a MAC list, under the rule of a cipher's row
module _ (side : Side) (own : List ℕ) (w : within (first_row Mac) (first_row Compression) own ≡ true) (rc : ℕ) (h : first_row Cipher ≤ rc) (l : rc < first_row Mac)
    (K : ℕ × Bool × At → Out (Rows × Bool)) (K' : List ℕ → List (List ℕ) × At → Out Names) (c : At) (j : Each side own (first_row Mac) (first_row Compression) w (lit≤ tt) 13 K K' c) where
  under : (t : Run) (d : At) → name_list c ≡ done (t, d) → (b : Bool) → needs_mac (row_spelled rc) ≡ b → (o : Option ℕ) → In (first_row Mac) (first_row Compression) o
      → (ruled (pick b Protected Optional) (record { number = 13; offset = c.at }) o >>= λ r. in_names (K (r, guessed 13 && both_first (spelled_rows own) (cut t.bytes), d)))
      ≡ (settle_mac (row_spelled rc) c.at (Option.map row_spelled o) >>= λ name. K' name (cut t.bytes, d))
  unfolding ruled settle_mac ◌>>=◌
  under t d e true f none i = rw f
  under t d e true f (some r) i =
      rw (f, is_no_mac r i.0 i.1) (split (eqb r none_row) (λ z. rw z) (λ z. rw z (j t d e r i.0 i.1)))
  under t d e false f none i = rw (f, ← no_mac_lem) (j t d e none_row (lit≤ tt) (lit< tt))
  under t d e false f (some r) i = rw f (j t d e r i.0 i.1)

  pub mac_needed : in_names (picked spells_name side (mac_rule (rc - first_row Cipher)) 13 own c >>= K)
      ≡ (offer c >>= λ x. settle_mac (row_spelled rc) c.at (chosen side (spelled_rows own) x.0) >>= λ name. K' name x)
  mac_needed =
      named side own (first_row Mac) (first_row Compression) w (lit≤ tt) (mac_rule (rc - first_row Cipher)) 13 (settle_mac (row_spelled rc) c.at) K K' c
      (λ t d e o i. rw (mac_rule_lem rc h l) (under t d e (needs_mac (row_spelled rc)) refl o i))
