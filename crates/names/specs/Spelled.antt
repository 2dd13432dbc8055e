-- Spelling: a number's name. "A local number outside its table" is 9 (document 01).
use Rattle.std.specs.Prelude.{Bool, true, false, List, [], ℕ, ◌+◌, ltb, leb, length, get_or, take, drop, Result}
use Rattle.answer.specs.declared.Cause.{Cause}
use Rattle.answer.specs.Answer.{Out, refused, done, guard, answered, ◌>>=◌}
use Rattle.names.specs.declared.Kind.{Kind}
use Rattle.names.specs.declared.rows.Columns.{Columns}
use Rattle.names.specs.Tables.{names_of, need_mac, built_in}

-- what stands at a place of a table; the default is never seen
unfoldable pub entry : {A : Type 0} → A → List A → ℕ → Out A
entry default table n = do
  _ ← guard 9 (ltb n (length table))
  done (get_or table n default)

-- the name at a place of a table
abbrev pub name_at : List (List ℕ) → ℕ → Out (List ℕ)
name_at names n = entry [] names n

-- the name of a number of a kind
abbrev pub spelled : Kind → ℕ → Out (List ℕ)
spelled k n = name_at (names_of k) n

-- The name that a row of three columns spells. A row whose start and length run past the spellings is outside, too.
unfoldable pub row_name : List ℕ → List ℕ → List ℕ → ℕ → Out (List ℕ)
row_name spellings starts lengths n = do
  start ← entry 0 starts n
  len ← entry 0 lengths n
  _ ← guard 9 (leb (start + len) (length spellings))
  done (take len (drop start spellings))

-- by the columns that were lent
abbrev pub spelled_by : Columns → ℕ → Out (List ℕ)
spelled_by t n = row_name t.spellings.now t.starts.now t.lengths.now n

-- a name is there
abbrev pub there : Out (List ℕ) → Bool
there (refused r) = false
there (done x) = true

-- what a column of bools answers means
abbrev pub flag : Result Bool Cause → Out Bool
flag r = answered r

abbrev pub needs_mac : ℕ → Out Bool
needs_mac n = entry false need_mac n

abbrev pub built_in_integrity : ℕ → Out Bool
built_in_integrity n = entry false built_in n
