-- A row outside by its law, and a row inside by what `get` lends. Assumes nothing.
use Rattle.names.proofs.RowLaws.{told_entry, no_start, no_length, range_shown}
use Rattle.names.proofs.rows.Columns.spelling.Goals as goal

pub returns-in_err-ok_or : goal.returns-in_err-ok_or
returns-in_err-ok_or c =
    no_start _ _ _ _ _ (told_entry 0 _ _ _ c.get.ensures.lookup _ c.ok_or.ensures.value) _ _ c.in_err-ok_or.was c.from_residual.ensures

pub returns-in_err-ok_or-2 : goal.returns-in_err-ok_or-2
returns-in_err-ok_or-2 c =
    no_length _ _ _ _ _ (told_entry 0 _ _ _ c.get.ensures.lookup _ c.ok_or.ensures.value) _ c.in_ok-ok_or.was _
    (told_entry 0 _ _ _ c.get-2.ensures.lookup _ c.ok_or-2.ensures.value) _ _ c.in_err-ok_or-2.was c.from_residual-in_err-ok_or-2.ensures

pub returns : goal.returns
returns c =
    rw c.ok_or-3.ensures.value
    (range_shown _ _ _ _ _ (told_entry 0 _ _ _ c.get.ensures.lookup _ c.ok_or.ensures.value) _ c.in_ok-ok_or.was _
    (told_entry 0 _ _ _ c.get-2.ensures.lookup _ c.ok_or-2.ensures.value) _ c.in_ok-ok_or-2.was _ c.from-start.ensures _ c.from-len.ensures _ c.get-3.ensures.lookup)
