-- An own list as it lies in memory, and what a contract sees of it.
use Rattle.std.specs.Prelude.{◌≡◌, ℕ, ◌+◌, ◌-◌, ◌≤◌, List, ◌++◌, length, take, drop, replicate}
use Rattle.judging.specs.Tables.{most_entries}
use Rattle.filters.specs.declared.rows.RowList.TheInside.{Inside}
use Rattle.filters.specs.Items.{Items}

-- certificate names each come from the key list, each once, so there are no more of them than of key names
abbrev pub most_own : ℕ
most_own = most_entries + most_entries

-- the rows in front
abbrev pub seen : Inside → Items
seen l = record { items = take l.len l.rows }

-- no more than there is room for, and 0 after them
abbrev pub Tidy : Inside → Type 0
Tidy l = (l.len ≤ length l.rows) × (length l.rows ≡ most_own) × (replicate (most_own - l.len) 0 ≡ drop l.len l.rows)

-- the fields, from the rows alone
abbrev pub stored : Items → Inside
stored l = record { rows = l.items ++ replicate (most_own - length l.items) 0; len = length l.items }
