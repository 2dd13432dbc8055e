use Rattle.picking.proofs.PickLaws.{stands_laws}
use Rattle.picking.proofs.pick.stands_in.Goals as goal

pub returns-in_default : goal.returns-in_default
returns-in_default c = search (stands_laws, c.in_default.ensures)

pub slice_bounds-choose-count : goal.slice_bounds-choose-count
slice_bounds-choose-count c = search (stands_laws, c.in-Ok.ensures)

pub slice_bounds-choose-start : goal.slice_bounds-choose-start
slice_bounds-choose-start c = search (stands_laws, c.in-Ok.ensures)

pub slice_bounds-choose-end-2 : goal.slice_bounds-choose-end-2
slice_bounds-choose-end-2 c = search (stands_laws, c.in-Ok.ensures)

pub returns : goal.returns
returns c = search (stands_laws, c.in-Ok.ensures)
