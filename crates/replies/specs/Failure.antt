-- CHANNEL_OPEN_FAILURE (RFC 4254 section 5.1), as `fail` and `unknown_type` of src/parsing.rs write it.
use Rattle.std.specs.Prelude.{List, ◌∷◌, ◌++◌, ℕ, leb, length}
use Rattle.answer.specs.Answer.{Out, done, guard, ◌>>=◌}
use Rattle.text.specs.Literal.{bytes}
use Rattle.put.specs.Written.{word}

-- "failure text over 1,024" is 1 (docs/DIFFERENCES.md, R14 and X5)
abbrev pub most_text : ℕ
most_text = 1024

-- "Failure payload: 92, recipient u32, reason u32 (0 to 255), text (any bytes: a difference), "en"."
-- (docs/DIFFERENCES.md, R6 and R21)
unfoldable pub payload : ℕ → ℕ → List ℕ → List ℕ
payload recipient reason text = 92 ∷ word recipient ++ word reason ++ word (length text) ++ text ++ word 2 ++ bytes "en"

unfoldable pub failure : ℕ → ℕ → List ℕ → Out (List ℕ)
failure recipient reason text = do
  _ ← guard 1 (leb (length text) most_text)
  done (payload recipient reason text)

-- "The unknown-type text is "Unknown channel type", reason 3."
abbrev pub unknown_type : ℕ → Out (List ℕ)
unknown_type recipient = failure recipient 3 (bytes "Unknown channel type")
