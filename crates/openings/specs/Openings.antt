-- An opening and a confirmation, as structs (crates/shapes/specs/Shapes.antt).
use Rattle.std.specs.Prelude.{ℕ}
use Rattle.answer.specs.Answer.{Out, refused, done}
use Rattle.wire.specs.declared.place.Place.{Place}
use Rattle.layouts.specs.declared.ChannelType.{ChannelType}
use Rattle.layouts.specs.declared.ChannelType.TheVariants.{Session, X11, DirectTcpip, DirectStreamLocal, ForwardedTcpIp}
use Rattle.layouts.specs.declared.ChannelType.TheVariants.{ForwardedStreamLocal, AgentForward, Unknown as UnknownType}
use Rattle.layouts.specs.declared.TcpChannelInfo.{TcpChannelInfo}
use Rattle.channels.specs.declared.OpenChannelMessage.{OpenChannelMessage}
use Rattle.replies.specs.declared.ChannelOpenConfirmation.{ChannelOpenConfirmation}
use Rattle.openings.specs.declared.Open.{Open}
use Rattle.openings.specs.declared.Confirmation.{Confirmation}

-- where no text is
abbrev pub no_place : Place
no_place = record { start = 0; len = 0 }

-- what stands in a message beside its type: text, port, originator, its port, and the rest
unfoldable pub open_with : ℕ → OpenChannelMessage → Place → ℕ → Place → ℕ → Place → Open
open_with typ m text port originator originator_port rest =
    record {
      what = 1;
      number = 0;
      offset = 0;
      typ = typ;
      recipient_channel = m.recipient_channel;
      recipient_window_size = m.recipient_window_size;
      recipient_maximum_packet_size = m.recipient_maximum_packet_size;
      text_start = text.start;
      text_len = text.len;
      port = port;
      originator_start = originator.start;
      originator_len = originator.len;
      originator_port = originator_port;
      rest_start = rest.start;
      rest_len = rest.len;
    }

-- a host to connect and an originator
abbrev pub tcp_open : ℕ → OpenChannelMessage → TcpChannelInfo → Open
tcp_open typ m i =
    open_with typ m i.host_to_connect i.port_to_connect i.originator_address i.originator_port no_place

-- a path, the name of an unknown type, or nothing, and the rest
abbrev pub text_open : ℕ → OpenChannelMessage → Place → Place → Open
text_open typ m text rest = open_with typ m text 0 no_place 0 rest

-- by its type, as include/harupesat.h counts them
unfoldable pub message_of : ChannelType → OpenChannelMessage → Open
message_of Session m = text_open 0 m no_place no_place
message_of (X11 originator port) m = open_with 1 m no_place 0 originator port no_place
message_of (DirectTcpip i) m = tcp_open 2 m i
message_of (DirectStreamLocal i) m = text_open 3 m i.socket_path no_place
message_of (ForwardedTcpIp i) m = tcp_open 4 m i
message_of (ForwardedStreamLocal i) m = text_open 5 m i.socket_path no_place
message_of AgentForward m = text_open 6 m no_place no_place
message_of (UnknownType typ rest) m = text_open 7 m typ rest

unfoldable pub open_of : Out OpenChannelMessage → Open
open_of (refused r) =
    record {
      what = 0;
      number = r.number;
      offset = r.offset;
      typ = 0;
      recipient_channel = 0;
      recipient_window_size = 0;
      recipient_maximum_packet_size = 0;
      text_start = 0;
      text_len = 0;
      port = 0;
      originator_start = 0;
      originator_len = 0;
      originator_port = 0;
      rest_start = 0;
      rest_len = 0;
    }
open_of (done m) = message_of m.typ m

unfoldable pub confirmation_of : Out ChannelOpenConfirmation → Confirmation
confirmation_of (refused r) =
    record {
      what = 0;
      number = r.number;
      offset = r.offset;
      recipient_channel = 0;
      sender_channel = 0;
      initial_window_size = 0;
      maximum_packet_size = 0;
    }
confirmation_of (done m) =
    record {
      what = 1;
      number = 0;
      offset = 0;
      recipient_channel = m.recipient_channel;
      sender_channel = m.sender_channel;
      initial_window_size = m.initial_window_size;
      maximum_packet_size = m.maximum_packet_size;
    }
