-- Puts in a row, for a writer that has tested the room for all of them: each goes on where the one before ended. One that
-- was refused left the buffer as it was, and the next goes where it would have gone.
use Rattle.std.specs.Prelude.{List, [], ◌∷◌, ℕ}
use Rattle.answer.specs.Answer.{Out, refused, done}
use Rattle.put.specs.Written.{written, buffer}

-- where a put went on, or stayed
abbrev pub next_or : Out ℕ → ℕ → ℕ
next_or (refused r) at = at
next_or (done n) at = n

-- where the last one ended, and what the buffer then holds
unfoldable pub ended : List ℕ → ℕ → List (Out (List ℕ)) → ℕ
ended out at [] = at
ended out at (w ∷ ws) = ended (buffer out at w) (next_or (written out at w) at) ws

unfoldable pub filled : List ℕ → ℕ → List (Out (List ℕ)) → List ℕ
filled out at [] = out
filled out at (w ∷ ws) = filled (buffer out at w) (next_or (written out at w) at) ws
