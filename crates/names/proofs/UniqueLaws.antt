-- No two answers have one meaning. Assumes nothing.
use mathlib.Core.Path.{◌≡◌, refl}
use mathlib.Core.Bool.{Bool}
use Prim.Native.Nat.{ℕ}
use Rattle.std.specs.Prelude.{Option as Maybe, Some, None, Result}
use Rattle.answer.specs.declared.Cause.{Cause}
use Rattle.answer.proofs.Laws.{answered_unique}
use Rattle.names.specs.Lookup.{found, found_row}
use Rattle.names.specs.Spelled.{flag}

pub found_unique : (a b : Maybe ℕ) → found a ≡ found b → a ≡ b
found_unique (Some m) (Some n) e = cc
found_unique (Some m) None e = cc
found_unique None (Some n) e = cc
found_unique None None e = refl

pub row_unique : (a b : Maybe ℕ) → found_row a ≡ found_row b → a ≡ b
row_unique a b e = found_unique a b e

pub flag_unique : (a b : Result Bool Cause) → flag a ≡ flag b → a ≡ b
flag_unique a b e = answered_unique a b e
