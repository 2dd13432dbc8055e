-- The name-list that is written of a list of numbers (RFC 4251 section 5).
use Rattle.std.specs.Prelude.{List, [], ◌∷◌, ℕ}
use Rattle.answer.specs.Answer.{Out, done, ◌>>=◌}
use Rattle.put.specs.Written.{string}
use Rattle.commas.specs.Cut.{join}

-- the names of a list of numbers, each as `name` has it
unfoldable pub names_by : (ℕ → Out (List ℕ)) → List ℕ → Out (List (List ℕ))
names_by name [] = done []
names_by name (n ∷ ns) = do
  x ← name n
  xs ← names_by name ns
  done (x ∷ xs)

-- joined by commas, as a string
unfoldable pub list_by : (ℕ → Out (List ℕ)) → List ℕ → Out (List ℕ)
list_by name ns = do
  names ← names_by name ns
  string (join names)
