use Rattle.replies.specs.Confirmation.{offer}
use Rattle.replies.proofs.StepLaws.{steps}
use Rattle.replies.proofs.offer.read_offer.Goals as goal

pub returns-in_err-sender_channel : goal.returns-in_err-sender_channel
unfolding offer
returns-in_err-sender_channel c = search steps

pub returns-in_err-initial_window_size : goal.returns-in_err-initial_window_size
unfolding offer
returns-in_err-initial_window_size c = search steps

pub returns-in_err-maximum_packet_size : goal.returns-in_err-maximum_packet_size
unfolding offer
returns-in_err-maximum_packet_size c = search steps

pub returns-then-maximum_packet_size-eq0 : goal.returns-then-maximum_packet_size-eq0
unfolding offer
returns-then-maximum_packet_size-eq0 c = search steps

pub returns : goal.returns
unfolding offer
returns c = search steps
