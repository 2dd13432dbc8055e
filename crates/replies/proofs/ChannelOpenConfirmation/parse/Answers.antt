use Rattle.replies.specs.Confirmation.{read_confirmation}
use Rattle.replies.proofs.StepLaws.{steps}
use Rattle.replies.proofs.ChannelOpenConfirmation.parse.Goals as goal

pub returns-then-body-gt-MOST_BODY : goal.returns-then-body-gt-MOST_BODY
unfolding read_confirmation
returns-then-body-gt-MOST_BODY c = search steps

pub returns-in_err-recipient_channel : goal.returns-in_err-recipient_channel
unfolding read_confirmation
returns-in_err-recipient_channel c = search steps

pub returns-in_err-offer : goal.returns-in_err-offer
unfolding read_confirmation
returns-in_err-offer c = search steps

pub returns : goal.returns
unfolding read_confirmation
returns c = search steps
