-- Number 1 at the failure text's limit, from both sides (document 01: "failure text over 1,024"). The limits of a KEXINIT and
-- of a channel body are run instead (crates/calls): lists of 262,176 elements take seconds to compute.
use Rattle.std.specs.Prelude.{List, [], ◌∷◌, ℕ, length, replicate}
use Rattle.replies.specs.Failure.{failure}
use Rattle.tried.specs.Row.{Row, row}
use Rattle.tried.specs.Trials.{refuses, gives, answered}

-- the length of the failure that is written of a text of n bytes: 92, two u32, a string, "en", so 19 more
abbrev fails_with : ℕ → List ℕ
fails_with n = answered (λ (p : List ℕ). gives (length p ∷ [])) (failure 0 0 (replicate n 0))

unfoldable pub long_rows : List Row
long_rows =
    row "a failure text of 1,024 bytes: 1,043" (fails_with 1024) (gives (1043 ∷ []))
    ∷ row "of 1,025: 1" (fails_with 1025) (refuses 1)
    ∷ []
