-- No two answers have one meaning, whatever slice was lent: so a contract fixes the answer. Assumes nothing.
use mathlib.Core.Path.{◌≡◌, refl, ap, sym}
use mathlib.Core.List.{List}
use Prim.Native.Nat.{ℕ}
use native.Mathlib.Omega.{arith}
use Rattle.std.specs.Prelude.{Option, Some, None, Result, Ok, Err}
use Rattle.std.proofs.Common.{Bor}
use Rattle.answer.specs.declared.Cause.{Cause}
use Rattle.answer.specs.Refusal.{Refusal}
use Rattle.answer.specs.declared.Refusal.{Refusal as Answered}
use Rattle.answer.proofs.Laws.{un_done, un_refused, not_both, number_unique, outcome_unique}
use Rattle.wire.specs.Shown.{shown_part}
use Rattle.wire.specs.declared.place.Place.{Place}
use Rattle.wire.specs.declared.cursor.Cursor.{Cursor}
use Rattle.wire.specs.Fields.{At, Run}
use Rattle.wire.specs.Walk.{Next, none, name}
use Rattle.wire.specs.Answers.{read, read_run, got_byte, got_word, got_text, checked, next_of}

pub read_unique : {A : Type 0} (s : List ℕ) (a b : A × Cursor) → ◌≡◌ {A = A × At} (read s a) (read s b) → a ≡ b
read_unique s (m, c) (n, d) e = λ i. ((e i).0, record { at = (e i).1.at })

run_unique : (s : List ℕ) (a b : Place × Cursor) → ◌≡◌ {A = Run × At} (read_run s a) (read_run s b) → a ≡ b
run_unique s (p, c) (q, d) e = λ i. ((e i).0.place, record { at = (e i).1.at })

pub byte_unique : (s : List ℕ) (a b : Result (ℕ × Cursor) Answered) → got_byte s a ≡ got_byte s b → a ≡ b
byte_unique s a b h = outcome_unique (read s) (read_unique s) a b h

pub word_unique : (s : List ℕ) (a b : Result (ℕ × Cursor) Answered) → got_word s a ≡ got_word s b → a ≡ b
word_unique s a b h = outcome_unique (read s) (read_unique s) a b h

pub text_unique : (s : List ℕ) (a b : Result (Place × Cursor) Answered) → got_text s a ≡ got_text s b → a ≡ b
text_unique s a b h = outcome_unique (read_run s) (run_unique s) a b h

pub checked_unique : (a b : Result (Unit {0}) Answered) → checked a ≡ checked b → a ≡ b
checked_unique a b h = outcome_unique (λ u. u) (λ u v e. e) a b h

abbrev name_of : Next → Option (Place × Cursor)
name_of none = None
name_of (name t d) = Some (t.place, record { at = d.at })

pub name_unique : (s : List ℕ) (a b : Option (Place × Cursor)) → next_of s a ≡ next_of s b → a ≡ b
name_unique s (Some (p, c)) (Some (q, d)) h = ap name_of h
name_unique s (Some (p, c)) None h = absurd (let z : ◌≡◌ {A = ℕ} 0 1 = cc in omega arith)
name_unique s None (Some (q, d)) h = absurd (let z : ◌≡◌ {A = ℕ} 0 1 = cc in omega arith)
name_unique s None None h = refl

-- what a shown part means says all of a refusal, and the bytes of a part; the clauses `block` and `place` say where they stand
pub data Alike : Result (Bor (List ℕ)) Cause → Result (Bor (List ℕ)) Cause → Type 0 where
  parts : {x y : Bor (List ℕ)} → x.now ≡ y.now → Alike (Ok x) (Ok y)
  refusals : {c : Cause} → Alike (Err c) (Err c)

pub shown_unique : (a b : Result (Bor (List ℕ)) Cause) → shown_part a ≡ shown_part b → Alike a b
shown_unique (Ok x) (Ok y) h = parts (un_done h)
shown_unique (Ok x) (Err c) h = absurd (not_both h)
shown_unique (Err c) (Ok y) h = absurd (not_both (sym h))
shown_unique (Err c) (Err d) h = rw (number_unique c d (ap (λ (r : Refusal). r.number) (un_refused h))) refusals
