-- A place handed back as the part of the slice that it is.
use Rattle.std.specs.Prelude.{List, [], ℕ, ◌+◌, leb, length, take, drop, Result, Ok, Err}
use Rattle.std.proofs.Common.{Bor}
use Rattle.answer.specs.Refusal.{number as number_of}
use Rattle.answer.specs.Answer.{Out, refused, done, refuse, guard, ◌>>=◌}
use Rattle.answer.specs.declared.Cause.{Cause}
use Rattle.wire.specs.declared.place.Place.{Place}

-- the bytes at a place
abbrev pub part : Place → List ℕ → List ℕ
part p s = take p.len (drop p.start s)

-- "a string's place lies outside the slice lent" is 2 (document 01: added; docs/DIFFERENCES.md, X6); an empty place at the
-- very end lies inside
unfoldable pub shown : List ℕ → Place → Out (List ℕ)
shown s p = do
  _ ← guard 2 (leb (p.start + p.len) (length s))
  done (part p s)

-- the bytes, and none where there are none to be had
abbrev pub bytes_of : Out (List ℕ) → List ℕ
bytes_of (refused r) = []
bytes_of (done s) = s

-- what a shown part means: the bytes that it points to, or why there is none
abbrev pub shown_part : Result (Bor (List ℕ)) Cause → Out (List ℕ)
shown_part (Ok part) = done part.now
shown_part (Err c) = refuse (number_of c)
