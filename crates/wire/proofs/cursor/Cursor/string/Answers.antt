use Rattle.wire.specs.Fields.{string}
use Rattle.wire.proofs.RunLaws.{string_laws}
use Rattle.wire.proofs.StepLaws.{field_steps}
use Rattle.wire.proofs.cursor.Cursor.string.Goals as goal

pub returns-in_err-p : goal.returns-in_err-p
unfolding string
returns-in_err-p c = search field_steps

pub slice_bounds-utf8-count : goal.slice_bounds-utf8-count
slice_bounds-utf8-count c = search (string_laws, c.in_ok-p.ensures)

pub slice_bounds-utf8-start : goal.slice_bounds-utf8-start
slice_bounds-utf8-start c = search (string_laws, c.in_ok-p.ensures)

pub slice_bounds-utf8-end : goal.slice_bounds-utf8-end
slice_bounds-utf8-end c = search (string_laws, c.in_ok-p.ensures)

pub returns-then-utf8 : goal.returns-then-utf8
returns-then-utf8 c = search (string_laws, c.in_ok-p.ensures)

pub returns : goal.returns
returns c = search (string_laws, c.in_ok-p.ensures)
