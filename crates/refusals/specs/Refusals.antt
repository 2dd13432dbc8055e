-- What each reader can refuse with, and where. "No number is given in any other circumstance" (document 01, "Numbers a
-- refusal carries"): none but these is. And the offset lies within the input, or at its very end, where a field is missing
-- (document 02, No. 6).
use Rattle.std.specs.Prelude.{◌≡◌, Bool, true, List, [], ◌∷◌, ℕ, ◌≤◌, length, take}
use Rattle.answer.specs.Refusal.{Refusal}
use Rattle.answer.specs.Answer.{Out, refused, done, refuse_at}
use Rattle.wire.specs.declared.place.Place.{Place}
use Rattle.wire.specs.Shown.{shown}
use Rattle.framing.specs.declared.Counters.{Counters}
use Rattle.framing.specs.Clear.{read_packet}
use Rattle.replies.specs.Confirmation.{read_confirmation}
use Rattle.channels.specs.Open.{read_open}
use Rattle.judging.specs.Tables.{Tables}
use Rattle.filters.specs.Picked.{member}
use Rattle.negotiation.specs.Read.{read_kex}

-- one of these numbers, at an offset of at most n
pub record Within (numbers : List ℕ) (n : ℕ) (r : Refusal) : Type 0 where
  pub known : member r.number numbers ≡ true
  pub inside : r.offset ≤ n

-- so is each refusal of an answer about these bytes
abbrev pub Refuses : List ℕ → List ℕ → {A : Type 0} → Out A → Type 0
Refuses numbers bytes o = (r : Refusal) → o ≡ refused r → Within numbers (length bytes) r

pub record EachReader : Type 0 where
  pub packet : (s : List ℕ) (k : Counters) → Refuses (4 ∷ 7 ∷ []) s (read_packet s k)
  pub kex_init : (t : Tables) (strict_agreed : Bool) (p : List ℕ)
      → Refuses (1 ∷ 2 ∷ 3 ∷ 5 ∷ 6 ∷ 9 ∷ 10 ∷ 11 ∷ 12 ∷ 13 ∷ 14 ∷ []) p (read_kex t strict_agreed p)
  pub opening : (b : List ℕ) → Refuses (1 ∷ 2 ∷ 3 ∷ 5 ∷ 6 ∷ []) b (read_open b)
  pub confirmation : (b : List ℕ) → Refuses (1 ∷ 2 ∷ 6 ∷ []) b (read_confirmation b)
  pub place : (s : List ℕ) (p : Place) → Refuses (2 ∷ []) s (shown s p)

-- And the offset is where it broke. What stands before it is fine: cut there, the input lacks just the field that starts there,
-- which is 2 at that offset; and cut where bytes are left over (5) it is accepted. And it is that field which offends: wherever
-- the input is cut from the offset on, it is refused at that offset, as it would not be for the start of an earlier field.
pub record Broke {A : Type 0} (numbers : List ℕ) (f : List ℕ → Out A) : Type 0 where
  pub lacks : (s : List ℕ) (r : Refusal) → f s ≡ refused r → member r.number numbers ≡ true → f (take r.offset s) ≡ refuse_at 2 r.offset
  pub stays : (s : List ℕ) (r : Refusal) → f s ≡ refused r → member r.number numbers ≡ true → (p : ℕ) → r.offset ≤ p
      → (n : ℕ) × (f (take p s) ≡ refuse_at n r.offset)
  pub accepts : (s : List ℕ) (r : Refusal) → f s ≡ refused r → r.number ≡ 5 → (a : A) × (f (take r.offset s) ≡ done a)

-- 6 is a maximum packet of 0 here, and of a KEXINIT that it is short
pub record EachBroke : Type 0 where
  pub kex_init : (t : Tables) (strict_agreed : Bool) → Broke (2 ∷ 3 ∷ 10 ∷ 11 ∷ 12 ∷ 13 ∷ 14 ∷ []) (read_kex t strict_agreed)
  pub opening : Broke (2 ∷ 3 ∷ 6 ∷ []) read_open
  pub confirmation : Broke (2 ∷ 6 ∷ []) read_confirmation
