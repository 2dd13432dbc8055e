use Rattle.replies.proofs.WriteLaws.{refusal_laws}
use Rattle.replies.proofs.failure.fail.Goals as goal

pub returns-then-message-gt-MOST_TEXT : goal.returns-then-message-gt-MOST_TEXT
returns-then-message-gt-MOST_TEXT c = search refusal_laws

pub returns-then-out-message : goal.returns-then-out-message
returns-then-out-message c = search refusal_laws
