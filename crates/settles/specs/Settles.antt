-- What a side settles on, as a struct (crates/shapes/specs/Shapes.antt), and a side, which crosses as a flag.
use Rattle.std.specs.Prelude.{Bool, true, false, ◌≡◌, Result}
use Rattle.answer.specs.declared.Refusal.{Refusal as Answered}
use Rattle.answer.specs.Answer.{Out, refused, done}
use Rattle.choice.specs.declared.Side.{Side}
use Rattle.choice.specs.declared.Side.TheVariants.{Client, Server}
use Rattle.negotiation.specs.declared.Names.{Names}
use Rattle.negotiation.specs.Read.{got_names}
use Rattle.settles.specs.declared.Settled.{Settled}

unfoldable pub settled_of : Out Names → Settled
settled_of (refused r) =
    record {
      what = 0;
      number = r.number;
      offset = r.offset;
      kex = 0;
      key = 0;
      cipher = 0;
      client_mac = 0;
      server_mac = 0;
      client_compression = 0;
      server_compression = 0;
      host_key_is_certificate = false;
      ignore_guessed = false;
      strict_kex = false;
    }
settled_of (done n) =
    record {
      what = 1;
      number = 0;
      offset = 0;
      kex = n.kex.0;
      key = n.key.0;
      cipher = n.cipher.0;
      client_mac = n.client_mac.0;
      server_mac = n.server_mac.0;
      client_compression = n.client_compression.0;
      server_compression = n.server_compression.0;
      host_key_is_certificate = n.flags.host_key_is_certificate;
      ignore_guessed = n.flags.ignore_guessed;
      strict_kex = n.flags.strict_kex;
    }

-- what the code's answer is made
abbrev pub IsSettled : Result Names Answered → Settled → Type 0
IsSettled r w = w ≡ settled_of (got_names r)

-- the side that a flag says
abbrev pub side_of : Bool → Side
side_of false = Client
side_of true = Server
