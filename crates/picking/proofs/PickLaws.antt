-- Laws of one list and its choice: one for each answer that the code gives. Assumes nothing.
use mathlib.Core.Path.{◌≡◌, refl, sym, ◌∙◌}
use mathlib.Core.Bool.{Bool, true, false, ◌&&◌}
use mathlib.Core.List.{List, [], ◌∷◌}
use mathlib.Core.Option.{Option, some, none}
use Prim.Native.Nat.{ℕ, ◌-◌, ◌≤◌}
use native.Mathlib.Omega.{arith}
use borrow.Author.Tests.{ltb-false}
use lib.Dec.{ltb}
use lib.ListN.{length, take, drop, get_or, get_or-eq_default}
use Rattle.std.specs.Prelude.{Result, Ok, Err, Option as Maybe, Some, None, is_some}
use Rattle.std.specs.Result.{IsErr, IsErrAnd, result_from_control_flow, result_unwrap_or}
use Rattle.std.proofs.Common.{Continue, Break}
use Rattle.std.proofs.lemmas.Result.{err_from_is_err_and}
use Rattle.answer.specs.declared.Cause.{Cause}
use Rattle.answer.specs.declared.Refusal.{Refusal as Answered}
use Rattle.answer.specs.Refusal.{Refusal, number as number_of, told}
use Rattle.answer.specs.Answer.{refused, done, pick, ◌>>=◌}
use Rattle.answer.proofs.Laws.{NoAt, split, un_done, not_both}
use Rattle.wire.specs.declared.place.Place.{Place}
use Rattle.wire.specs.Fields.{here, run}
use Rattle.commas.specs.Cut.{cut}
use Rattle.namelist.specs.Judged.{name_list}
use Rattle.wire.specs.Shown.{part}
use Rattle.wire.specs.Answers.{run_at}
use Rattle.wire.proofs.RunLaws.{Inside, text_order, text_within, text_bytes}
use Rattle.namelist.proofs.JudgeLaws.{list_inside}
use Rattle.names.specs.Spelled.{entry, flag, needs_mac}
use Rattle.names.specs.Tables.{need_mac}
use Rattle.choice.proofs.ChoiceLaws.{chosen_one}
use Rattle.choice.specs.declared.Side.{Side}
use Rattle.choice.specs.declared.Side.TheVariants.{Client}
use Rattle.choice.specs.Rows.{chose, chosen_row, first_both, offered}
use Rattle.picking.specs.declared.Rule.{Rule}
use Rattle.picking.specs.declared.Rule.TheVariants.{Protected, Optional}
use Rattle.picking.specs.declared.Picked.{Picked}
use Rattle.picking.specs.Picking.{guessed, ruled, ruling, picked, picked_from, picked_of, stands_in, mac_rule}
use Rattle.wire.proofs.StepLaws.{went_on, came_out}

some_none : {r : ℕ} → ◌≡◌ {A = Option ℕ} (some r) none → ⊥
some_none h = let z : ◌≡◌ {A = ℕ} 0 1 = cc in omega arith

-- what a column says at a number, as a list's element
module _ (column : List Bool) (n : ℕ) where
  entry_is : (b : Bool) → done b ≡ entry false column n → b ≡ get_or column n false
  unfolding entry ◌>>=◌
  entry_is b e = split (ltb n (length column)) (λ t. un_done (rw t at e)) (λ t. absurd (not_both (rw t at e)))

  entry_outside : (q : Refusal) → refused q ≡ entry false column n → false ≡ get_or column n false
  unfolding entry ◌>>=◌
  entry_outside q e =
      split (ltb n (length column)) (λ t. absurd (not_both (sym (rw t at e))))
      (λ t. sym (get_or-eq_default column false (ltb-false n (length column) t)))

-- the rule of a cipher
module _ (n : ℕ) (w : Result Bool Cause) (seen : flag w ≡ needs_mac n) (b : Bool) (e : b ≡ result_unwrap_or w false) where
  needs : b ≡ get_or need_mac n false
  needs = e ∙ asked w seen
    where
      asked : (v : Result Bool Cause) → flag v ≡ needs_mac n → result_unwrap_or v false ≡ get_or need_mac n false
      asked (Ok x) h = entry_is need_mac n x h
      asked (Err c) h = entry_outside need_mac n _ h

  pub rule_protected : b ≡ true → Protected ≡ mac_rule n
  unfolding mac_rule
  rule_protected h = rw (← needs, h)

  pub rule_free : b ≡ false → Optional ≡ mac_rule n
  unfolding mac_rule
  rule_free h = rw (← needs, h)

pub ruleset rule_laws = (rule_protected, rule_free)

picked_yes : (b : Bool) (r s : ℕ) → some r ≡ pick b (some s) none → true ≡ b
picked_yes true r s h = refl
picked_yes false r s h = absurd (some_none h)

picked_no : (b : Bool) (s : ℕ) → none ≡ pick b (some s) none → false ≡ b
picked_no true s h = absurd (some_none (sym h))
picked_no false s h = refl

-- a list that was read, from i on and up to k
module _ (p : List ℕ) (i : ℕ) (place : Place) (k : ℕ) (seen : done (run_at p place, here p k) ≡ name_list (here p i)) where
  pub list_order : place.start ≤ k
  list_order = let h = list_inside p i place k seen in omega arith

  pub list_within : k ≤ length p
  list_within = (list_inside p i place k seen).within

  abbrev bytes : List ℕ
  bytes = take (k - place.start) (drop place.start p)

  bytes_part : bytes ≡ part place p
  bytes_part = let h = list_inside p i place k seen in let l : k - place.start ≡ place.len = omega arith in rw l

  -- and the choice from it
  module _ (spells : ℕ → List ℕ → Bool) (side : Side) (rule : Rule) (no : Cause) (own : List ℕ) (x : Answered) (z : NoAt no i x) (ch : Maybe ℕ)
      (by : chose ch ≡ chosen_row spells side own (cut bytes)) (w : Result ℕ Answered) (said : ruling w ≡ ruled rule (told x) (chose ch))
      (b : _) (was : w ≡ result_from_control_flow b) where
    same : ruling w ≡ ruled rule (record { number = number_of no; offset = i }) (chosen_row spells side own (cut (part place p)))
    same = said ∙ rw (z, by, bytes_part)

    pub row_out : (e : _) (r : Result Picked Answered) → b ≡ Break e → IsErr r × IsErrAnd r (λ y. y ≡ e.0)
        → picked_of p r ≡ picked spells side rule (number_of no) own (here p i)
    unfolding picked picked_from ◌>>=◌
    row_out e r f h = let q = err_from_is_err_and r h.1 in rw (← seen, ← came_out (λ n. n) w _ same b was e f, q.1, q.2)

    pub row_on : (row : ℕ) (first : Bool) → b ≡ Continue row → first ≡ (guessed (number_of no) && first_both spells own (cut bytes))
        → done (row, first, here p k) ≡ picked spells side rule (number_of no) own (here p i)
    unfolding picked picked_from ◌>>=◌
    row_on row first f g = rw (← seen, ← went_on (λ n. n) w _ same b was row f, g, bytes_part)

pub ruleset pick_laws = (list_order, list_within, row_out, row_on)

-- a row's name in a list
module _ (spells : ℕ → List ℕ → Bool) (row : ℕ) (p : List ℕ) (i : ℕ) where
  pub stands_stop : (q : Refusal) → refused q ≡ run (here p i) → false ≡ stands_in spells row (here p i)
  unfolding stands_in
  stands_stop q e = rw (← e)

  pub stands : (place : Place) (k : ℕ) → done (run_at p place, here p k) ≡ run (here p i) → (ch : Maybe ℕ) (b : Bool)
      → chose ch ≡ chosen_row spells Client (row ∷ []) (cut (take (k - place.start) (drop place.start p)))
      → b ≡ is_some ch → b ≡ stands_in spells row (here p i)
  unfolding stands_in
  stands place k seen ch b f e = rw (← seen, e) (answer ch one)
    where
      one : chose ch ≡ pick (offered spells row (cut (part place p))) (some row) none
      one = f ∙ chosen_one spells Client row _ ∙ rw (text_bytes p i place k seen)

      answer : (v : Maybe ℕ) → chose v ≡ pick (offered spells row (cut (part place p))) (some row) none → is_some v ≡ offered spells row (cut (part place p))
      answer (Some r) h = picked_yes _ r row h
      answer None h = picked_no _ row h

pub ruleset stands_laws = (text_order, text_within, stands_stop, stands)
