-- A kind by its number, and what goes on from it. Assumes nothing.
use mathlib.Core.List.{List}
use mathlib.Core.Path.{◌≡◌}
use Prim.Native.Nat.{ℕ}
use Rattle.answer.specs.declared.Cause.{Cause}
use Rattle.answer.specs.Refusal.{number}
use Rattle.answer.specs.Answer.{Out, done, refuse, ◌>>=◌}
use Rattle.put.proofs.WriterLaws.{Puts}
use Rattle.names.specs.Numbered.{kind_of}
use Rattle.names.specs.declared.Kind.{Kind}

-- what goes on from a kind, by what its number is read as
module _ {B : Type 0} (n : ℕ) (f : Kind → Out B) where
  pub kind_on : (k : Kind) → done k ≡ kind_of n → kind_of n >>= f ≡ f k
  unfolding ◌>>=◌
  kind_on k told = rw (← told)

  pub kind_off : (e : Cause) → refuse (number e) ≡ kind_of n → kind_of n >>= f ≡ refuse (number e)
  unfolding ◌>>=◌
  kind_off e told = rw (← told)

-- a put of what goes on from a kind
pub kind_put : (out : List ℕ) (n : ℕ) (f : Kind → Out (List ℕ)) (k : Kind) (p : Out ℕ) (out' : List ℕ) → done k ≡ kind_of n
    → Puts out 0 (f k) p out' → Puts out 0 (kind_of n >>= f) p out'
kind_put out n f k p out' told h = rw (kind_on n f k told) h
