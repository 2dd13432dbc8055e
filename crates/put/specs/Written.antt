-- What a writer answers and what the lent buffer then holds: all that is to be written stands at its position, or the
-- writer refuses and no byte has changed. One pair of definitions serves every writer.
use Rattle.std.specs.Prelude.{List, [], ◌∷◌, ◌++◌, ℕ, ◌+◌, ◌/◌, ◌%◌, leb, length, Result}
use Rattle.std.proofs.lemmas.List.Edits.{sets}
use Rattle.answer.specs.declared.Cause.{Cause}
use Rattle.answer.specs.Answer.{Out, refused, done, guard, pick, answered, ◌>>=◌}

-- the answer: the position after what was written (8: the lent output is shorter than what is to be written;
-- docs/DIFFERENCES.md, X5)
unfoldable pub written : List ℕ → ℕ → Out (List ℕ) → Out ℕ
written out at what = do
  x ← what
  _ ← guard 8 (leb (at + length x) (length out))
  done (at + length x)

-- the buffer
unfoldable pub buffer : List ℕ → ℕ → Out (List ℕ) → List ℕ
buffer out at (refused r) = out
buffer out at (done x) = pick (leb (at + length x) (length out)) (sets out at x) out

-- what a put answers means
abbrev pub put : Result ℕ Cause → Out ℕ
put p = answered p

-- uint32, big-endian (RFC 4251 section 5)
unfoldable pub word : ℕ → List ℕ
word n = n / 256 / 256 / 256 % 256 ∷ n / 256 / 256 % 256 ∷ n / 256 % 256 ∷ n % 256 ∷ []

-- string: its length and its bytes (RFC 4251 section 5). A longer one than a uint32 can say is refused with 1
-- (docs/DIFFERENCES.md, D1).
unfoldable pub string : List ℕ → Out (List ℕ)
string x = do
  _ ← guard 1 (leb (length x) 4294967295)
  done (word (length x) ++ x)
