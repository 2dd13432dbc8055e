-- Laws of the reader. Assumes nothing.
use mathlib.Core.Path.{◌≡◌}
use mathlib.Core.List.{List}
use Prim.Native.Nat.{ℕ, ◌≤◌}
use borrow.Author.Tests.{le-leb}
use lib.ListN.{length}
use Rattle.std.specs.Prelude.{Result}
use Rattle.answer.specs.declared.Refusal.{Refusal as Answered}
use Rattle.answer.proofs.Laws.{outcome_unique}
use Rattle.answer.specs.Answer.{done, refuse_at, ◌>>=◌}
use Rattle.wire.specs.Fields.{At, Run, here, word, string}
use Rattle.replies.specs.Confirmation.{most_body}
use Rattle.replies.proofs.ConfirmationLaws.{zero_offer}
use Rattle.channels.specs.declared.OpenChannelMessage.{OpenChannelMessage}
use Rattle.channels.specs.Open.{read_open, got_open}

-- no two answers have one meaning
pub got_open_unique : (a b : Result OpenChannelMessage Answered) → got_open a ≡ got_open b → a ≡ b
got_open_unique a b e = outcome_unique (λ m. m) (λ m n h. h) a b e

-- a maximum packet of 0 is 6 where it stands, whatever the sender, the window and the type are and whatever follows
pub zero_open : (b : List ℕ) (t : Run) (c c₁ c₂ c₃ : At) (sender window : ℕ) → length b ≤ most_body → string (here b 0) ≡ done (t, c)
    → word c ≡ done (sender, c₁) → word c₁ ≡ done (window, c₂) → word c₂ ≡ done (0, c₃) → read_open b ≡ refuse_at 6 c₂.at
unfolding read_open ◌>>=◌
zero_open b t c c₁ c₂ c₃ sender window h k e f g = rw (le-leb (length b) most_body h, k, zero_offer c c₁ c₂ c₃ sender window e f g)
