-- Confirmation bodies (RFC 4254 section 5.1), and what an opening shares with them: document 01, "Channel opening". A body
-- starts after the message number.
use Rattle.std.specs.Prelude.{not, List, ℕ, leb, eqb, length}
use Rattle.answer.specs.Answer.{Out, done, guard, guard_at, ◌>>=◌}
use Rattle.wire.specs.Fields.{At, here, word}
use Rattle.replies.specs.declared.ChannelOpenConfirmation.{ChannelOpenConfirmation}
use Rattle.replies.specs.declared.offer.Offer.{Offer}

-- "channel body over 262,175" is 1 (docs/DIFFERENCES.md, R14 and X5)
abbrev pub most_body : ℕ
most_body = 262175

-- "sender, window, maximum packet, then 6 on 0": of an opening and of a confirmation alike (docs/DIFFERENCES.md, R7); 6 is
-- for the maximum's field
unfoldable pub offer : At → Out (Offer × At)
offer c = do
  (sender, c₁) ← word c
  (window, c₂) ← word c₁
  (most, c₃) ← word c₂
  _ ← guard_at 6 c₂.at (not (eqb most 0))
  done (record { sender_channel = sender; initial_window_size = window; maximum_packet_size = most }, c₃)

-- "Confirmation body: four u32 (recipient, sender, window, maximum packet); 6 on maximum 0; later bytes are accepted."
unfoldable pub read_confirmation : List ℕ → Out ChannelOpenConfirmation
read_confirmation b = do
  _ ← guard 1 (leb (length b) most_body)
  (recipient, c₁) ← word (here b 0)
  (o, _) ← offer c₁
  done
      (record {
        recipient_channel = recipient;
        sender_channel = o.sender_channel;
        initial_window_size = o.initial_window_size;
        maximum_packet_size = o.maximum_packet_size;
      })
