-- What a lookup and a column of the ciphers answer, as structs (crates/shapes/specs/Shapes.antt).
use Rattle.std.specs.Prelude.{Bool, false, ℕ, ◌≡◌, Result, Option as Maybe}
use Rattle.std.proofs.Math.Option.{Option, some, none}
use Rattle.answer.specs.declared.Cause.{Cause}
use Rattle.answer.specs.Answer.{Out, refused, done}
use Rattle.names.specs.Lookup.{found}
use Rattle.names.specs.Spelled.{flag}
use Rattle.kinds.specs.declared.Number.{Number}
use Rattle.kinds.specs.declared.Truth.{Truth}

unfoldable pub found_of : Option ℕ → Number
found_of none = record { what = 3; number = 0; value = 0 }
found_of (some n) = record { what = 1; number = 0; value = n }

unfoldable pub numbered : Out (Option ℕ) → Number
numbered (refused r) = record { what = 0; number = r.number; value = 0 }
numbered (done n) = found_of n

unfoldable pub truth_of : Out Bool → Truth
truth_of (refused r) = record { what = 0; number = r.number; value = false }
truth_of (done b) = record { what = 1; number = 0; value = b }

-- of what the code's look-up and its columns answer
abbrev pub IsFound : Maybe ℕ → Number → Type 0
IsFound o n = n ≡ found_of (found o)

abbrev pub IsTruth : Result Bool Cause → Truth → Type 0
IsTruth r t = t ≡ truth_of (flag r)
