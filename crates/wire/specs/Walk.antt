-- The walk over the names of a list that is lent whole (RFC 4251 section 5).
use Rattle.std.specs.Prelude.{◌+◌, take, drop}
use Rattle.answer.specs.Answer.{pick}
use Rattle.commas.specs.Cut.{empty, name_length}
use Rattle.wire.specs.Fields.{At, Run, skip}

-- The next name of a list, judged or not: nothing at the end and past it, and so after one comma at the very end; at a
-- comma the empty name; else the bytes up to the next comma or the end. The next cursor stands after that comma.
pub data Next : Type 0 where
  none : Next
  name : Run → At → Next

unfoldable pub next_name : At → Next
next_name c =
    pick (empty c.left) none
    (name (record { place = record { start = c.at; len = name_length c.left }; bytes = take (name_length c.left) c.left })
    (skip (name_length c.left + pick (empty (drop (name_length c.left) c.left)) 0 1) c))
