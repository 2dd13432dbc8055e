use Rattle.channels.specs.Open.{read_open}
use Rattle.replies.proofs.StepLaws.{steps}
use Rattle.channels.proofs.StepLaws.{type_laws, typed}
use Rattle.channels.proofs.OpenChannelMessage.parse.Goals as goal

pub returns-then-body-gt-MOST_BODY : goal.returns-then-body-gt-MOST_BODY
unfolding read_open
returns-then-body-gt-MOST_BODY c = search steps

pub returns-in_err-name : goal.returns-in_err-name
unfolding read_open
returns-in_err-name c = search steps

pub returns-in_err-offer : goal.returns-in_err-offer
unfolding read_open
returns-in_err-offer c = search steps

pub slice_bounds-channel_type-count : goal.slice_bounds-channel_type-count
slice_bounds-channel_type-count c = search (type_laws, c.in_ok-name.ensures)

pub slice_bounds-channel_type-start : goal.slice_bounds-channel_type-start
slice_bounds-channel_type-start c = search (type_laws, c.in_ok-name.ensures)

pub slice_bounds-channel_type-end : goal.slice_bounds-channel_type-end
slice_bounds-channel_type-end c = search (type_laws, c.in_ok-name.ensures)

pub returns-in_err-typ : goal.returns-in_err-typ
unfolding read_open
returns-in_err-typ c = search (steps, typed _ _ _ c.in_ok-name.ensures _ _ c.channel_type.ensures)

pub returns : goal.returns
unfolding read_open
returns c = search (steps, typed _ _ _ c.in_ok-name.ensures _ _ c.channel_type.ensures)
