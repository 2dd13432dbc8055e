use Rattle.wire.proofs.StepLaws.{field_steps}
use Rattle.picking.specs.Picking.{picked}
use Rattle.picking.proofs.PickLaws.{pick_laws}
use Rattle.picking.proofs.pick.pick_name.Goals as goal

pub returns-in_err-place : goal.returns-in_err-place
unfolding picked
returns-in_err-place c = search field_steps

pub slice_bounds-list-count : goal.slice_bounds-list-count
slice_bounds-list-count c = search (pick_laws, c.in_ok-place.ensures)

pub slice_bounds-list-start : goal.slice_bounds-list-start
slice_bounds-list-start c = search (pick_laws, c.in_ok-place.ensures)

pub slice_bounds-list-end : goal.slice_bounds-list-end
slice_bounds-list-end c = search (pick_laws, c.in_ok-place.ensures)

pub returns-in_err-row : goal.returns-in_err-row
returns-in_err-row c = search (pick_laws, c.in_ok-place.ensures)

pub returns : goal.returns
returns c = search (pick_laws, c.in_ok-place.ensures)
