-- Laws of the readers. Assumes nothing.
use mathlib.Core.Path.{◌≡◌}
use mathlib.Core.List.{List}
use Prim.Native.Nat.{ℕ, ◌≤◌}
use borrow.Author.Tests.{le-leb}
use lib.ListN.{length}
use Rattle.std.specs.Prelude.{Result}
use Rattle.answer.specs.declared.Refusal.{Refusal as Answered}
use Rattle.answer.specs.Answer.{refuse_at, done, ◌>>=◌}
use Rattle.answer.proofs.Laws.{outcome_unique}
use Rattle.wire.specs.declared.cursor.Cursor.{Cursor}
use Rattle.wire.specs.Fields.{At, here, word}
use Rattle.wire.specs.Answers.{read}
use Rattle.wire.proofs.UniqueLaws.{read_unique}
use Rattle.replies.specs.declared.ChannelOpenConfirmation.{ChannelOpenConfirmation}
use Rattle.replies.specs.declared.offer.Offer.{Offer}
use Rattle.replies.specs.Confirmation.{most_body, offer, read_confirmation}
use Rattle.replies.specs.Answers.{got_confirmation, got_offer}

-- no two answers have one meaning
pub got_confirmation_unique : (a b : Result ChannelOpenConfirmation Answered) → got_confirmation a ≡ got_confirmation b → a ≡ b
got_confirmation_unique a b e = outcome_unique (λ m. m) (λ m n h. h) a b e

pub got_offer_unique : (s : List ℕ) (a b : Result (Offer × Cursor) Answered) → got_offer s a ≡ got_offer s b → a ≡ b
got_offer_unique s a b e = outcome_unique (read s) (read_unique s) a b e

-- a maximum packet of 0 is 6 where it stands, whatever the sender and the window are
module _ (c c₁ c₂ c₃ : At) (sender window : ℕ) (e : word c ≡ done (sender, c₁)) (f : word c₁ ≡ done (window, c₂))
    (g : word c₂ ≡ done (0, c₃)) where
  pub zero_offer : offer c ≡ refuse_at 6 c₂.at
  unfolding offer ◌>>=◌
  zero_offer = rw (e, f, g)

  pub zero_confirmation : (b : List ℕ) (recipient : ℕ) → length b ≤ most_body → word (here b 0) ≡ done (recipient, c)
      → read_confirmation b ≡ refuse_at 6 c₂.at
  unfolding read_confirmation ◌>>=◌
  zero_confirmation b recipient h k = rw (le-leb (length b) most_body h, k, zero_offer)
