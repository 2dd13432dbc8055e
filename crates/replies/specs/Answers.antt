-- What the answers of the code mean: document 01's number, or the values; of the shared fields, over the body b, also where
-- the next field starts.
use Rattle.std.specs.Prelude.{List, ℕ, Result}
use Rattle.answer.specs.declared.Refusal.{Refusal as Answered}
use Rattle.answer.specs.Answer.{Out, outcome}
use Rattle.wire.specs.declared.cursor.Cursor.{Cursor}
use Rattle.wire.specs.Fields.{At}
use Rattle.wire.specs.Answers.{read}
use Rattle.replies.specs.declared.ChannelOpenConfirmation.{ChannelOpenConfirmation}
use Rattle.replies.specs.declared.offer.Offer.{Offer}

abbrev pub got_confirmation : Result ChannelOpenConfirmation Answered → Out ChannelOpenConfirmation
got_confirmation r = outcome (λ m. m) r

abbrev pub got_offer : List ℕ → Result (Offer × Cursor) Answered → Out (Offer × At)
got_offer b r = outcome (read b) r
