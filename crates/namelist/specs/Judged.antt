-- Name-lists (RFC 4251 section 5), as src/helpers.rs of the Rust judges them (docs/DIFFERENCES.md, C2 and C4 to C7).
use Rattle.std.specs.Prelude.{Bool, not, ◌&&◌, List, [], ◌∷◌, ℕ, ◌+◌, leb, length}
use Rattle.answer.specs.Answer.{Out, done, guard, guard_at, placed, ◌>>=◌}
use Rattle.text.specs.Utf8.{utf8}
use Rattle.text.specs.Same.{ascii}
use Rattle.commas.specs.Cut.{cut, empty}
use Rattle.wire.specs.Fields.{At, Run, run}

-- MAX_NAME_LIST_BYTES and MAX_NAME_LIST_ENTRIES of src/helpers.rs. The Rust tests the second before it adds a name, so
-- 1,025 names pass (C5, C6); the RFC has no such limits (R25).
abbrev pub most_list_bytes : ℕ
most_list_bytes = 16384

abbrev pub most_before : ℕ
most_before = 1024

-- a name that may stand in a list: not empty (C2), and US-ASCII as RFC 4251 asks (C4), but of any length and with any
-- controls (R5, R19)
unfoldable pub standing : List ℕ → Bool
standing s = not (empty s) && ascii s

-- name by name from the left, n of them judged before: 3 for a name that may not stand, before the count's 2 (C7)
unfoldable pub judged : ℕ → List (List ℕ) → Out (Unit {0})
judged n [] = done tt
judged n (s ∷ names) = do
  _ ← guard 3 (standing s)
  _ ← guard 2 (leb n most_before)
  judged (n + 1) names

-- the bytes of a list: UTF-8 as a whole, then its names (C7)
unfoldable pub judged_list : List ℕ → Out (Unit {0})
judged_list s = do
  _ ← guard 3 (utf8 s)
  judged 0 (cut s)

-- a name-list: the string, then its length, then its bytes (C7); whatever is wrong with them, the list is what is refused
unfoldable pub name_list : At → Out (Run × At)
name_list c = do
  (t, c') ← run c
  _ ← guard_at 2 c.at (leb (length t.bytes) most_list_bytes)
  _ ← placed c.at (judged_list t.bytes)
  done (t, c')
