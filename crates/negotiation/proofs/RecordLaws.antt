-- Laws of the record that the last stage makes. Assumes nothing.
use mathlib.Core.Path.{◌≡◌}
use Prim.Native.Nat.{ℕ, ◌-◌, ◌≤◌, ◌<◌}
use borrow.Author.Tests.{le-leb, lt-leb}
use Rattle.std.specs.Prelude.{Result}
use Rattle.answer.specs.declared.Refusal.{Refusal as Answered}
use Rattle.answer.proofs.Laws.{outcome_unique}
use Rattle.names.specs.Tables.{first_row}
use Rattle.names.specs.declared.Kind.TheVariants.{Key, Certificate}
use Rattle.negotiation.specs.declared.Names.{Names}
use Rattle.negotiation.specs.Read.{got_names}
use Rattle.negotiation.specs.Rows.{key_place}

pub place_certificate : (row n : ℕ) → first_row Certificate ≤ row → n ≡ row - first_row Certificate → n ≡ key_place row
unfolding key_place
place_certificate row n h e = rw (le-leb (first_row Certificate) row h) e

pub place_key : (row n : ℕ) → row < first_row Certificate → n ≡ row - first_row Key → n ≡ key_place row
unfolding key_place
place_key row n h e = rw (lt-leb (first_row Certificate) row h) e

-- no two answers have one meaning
pub got_names_unique : (a b : Result Names Answered) → got_names a ≡ got_names b → a ≡ b
got_names_unique a b h = outcome_unique (λ n. n) (λ m n e. e) a b h
