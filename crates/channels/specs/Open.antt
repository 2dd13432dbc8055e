-- Opening bodies (RFC 4254 section 5.1): document 01, "Channel opening". A body starts after the message number.
use Rattle.std.specs.Prelude.{List, ℕ, leb, length, Result}
use Rattle.answer.specs.declared.Refusal.{Refusal as Answered}
use Rattle.answer.specs.Answer.{Out, done, guard, outcome, ◌>>=◌}
use Rattle.wire.specs.declared.place.Place.{Place}
use Rattle.wire.specs.Fields.{here, string}
use Rattle.replies.specs.Confirmation.{most_body, offer}
use Rattle.layouts.specs.declared.ChannelType.{ChannelType}
use Rattle.layouts.specs.declared.ChannelType.TheVariants.{Session, X11, DirectTcpip, DirectStreamLocal, ForwardedTcpIp, ForwardedStreamLocal, AgentForward, Unknown}
use Rattle.layouts.specs.Types.{channel_type}
use Rattle.channels.specs.declared.OpenChannelMessage.{OpenChannelMessage}

-- "An opening body: type, sender, window, maximum packet, then 6 on 0, before the type is looked at."
-- (docs/DIFFERENCES.md, R20)
unfoldable pub read_open : List ℕ → Out OpenChannelMessage
read_open b = do
  _ ← guard 1 (leb (length b) most_body)
  (t, c₁) ← string (here b 0)
  (o, c₂) ← offer c₁
  typ ← channel_type t c₂
  done
      (record {
        typ = typ;
        recipient_channel = o.sender_channel;
        recipient_window_size = o.initial_window_size;
        recipient_maximum_packet_size = o.maximum_packet_size;
      })

-- no byte, at the front: it lies inside every slice
abbrev nowhere : Place
nowhere = record { start = 0; len = 0 }

-- where the rest of an unknown type's body stands: a known type leaves none (docs/DIFFERENCES.md, X6)
abbrev pub rest_of : ChannelType → Place
rest_of Session = nowhere
rest_of (X11 address port) = nowhere
rest_of (DirectTcpip info) = nowhere
rest_of (DirectStreamLocal info) = nowhere
rest_of (ForwardedTcpIp info) = nowhere
rest_of (ForwardedStreamLocal info) = nowhere
rest_of AgentForward = nowhere
rest_of (Unknown typ rest) = rest

-- what the code's answer means: document 01's number, or the values
abbrev pub got_open : Result OpenChannelMessage Answered → Out OpenChannelMessage
got_open r = outcome (λ m. m) r
