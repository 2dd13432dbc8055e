-- How each tried input of document 01 is put to the definitions, and what is looked at in the answer.
use Rattle.std.specs.Prelude.{Bool, true, false, List, [], ◌∷◌, ℕ, length, get_or, replicate}
use Rattle.answer.specs.Answer.{Out, refused, done}
use Rattle.choice.specs.declared.Side.TheVariants.{Client, Server}
use Rattle.framing.specs.Clear.{Read, need, packet, packet_of, read_packet}
use Rattle.layouts.specs.declared.ChannelType.{ChannelType}
use Rattle.layouts.specs.declared.ChannelType.TheVariants.{Session, X11, DirectTcpip, DirectStreamLocal, ForwardedTcpIp, ForwardedStreamLocal, AgentForward, Unknown}
use Rattle.channels.specs.declared.OpenChannelMessage.{OpenChannelMessage}
use Rattle.channels.specs.Open.{read_open}
use Rattle.judging.specs.Tables.{Tables, tables}
use Rattle.negotiation.specs.declared.Names.{Names}
use Rattle.negotiation.specs.KexInit.{encoded}
use Rattle.negotiation.specs.Read.{read_kex}

-- An answer as numbers, so that two can be compared: what it is, then its values; of a refusal its number and its offset.
abbrev pub refuses_at : ℕ → ℕ → List ℕ
refuses_at n i = 0 ∷ n ∷ i ∷ []

-- what is no reader's: a writer or a table of names has nothing to point into
abbrev pub refuses : ℕ → List ℕ
refuses n = refuses_at n 0

abbrev pub needs : ℕ → List ℕ
needs n = 1 ∷ n ∷ []

abbrev pub gives : List ℕ → List ℕ
gives values = 2 ∷ values

abbrev pub answered : {A : Type 0} → (A → List ℕ) → Out A → List ℕ
answered f (refused r) = refuses_at r.number r.offset
answered f (done a) = f a

abbrev pub flag : Bool → ℕ
flag true = 1
flag false = 0

-- a payload of n bytes written: the padding that the packet says, and its total
abbrev pub writes : ℕ → List ℕ
writes n = answered (λ (p : List ℕ). gives (get_or p 4 0 ∷ length p ∷ [])) (packet_of (replicate n 0))

-- a slice read: the packet's end, its payload's length, and the bytes taken
abbrev of_read : Read → List ℕ
of_read (need n) = needs n
of_read (packet p) = gives (p.end ∷ p.payload.len ∷ p.taken ∷ [])

abbrev pub reads : List ℕ → List ℕ
reads s = answered of_read (read_packet s (record { seqn = 0; bytes = 0 }))

-- an opening body: whether the channel is a session, and the three numbers
abbrev is_session : ChannelType → Bool
is_session Session = true
is_session (X11 address port) = false
is_session (DirectTcpip info) = false
is_session (DirectStreamLocal info) = false
is_session (ForwardedTcpIp info) = false
is_session (ForwardedStreamLocal info) = false
is_session AgentForward = false
is_session (Unknown typ rest) = false

abbrev pub opens : List ℕ → List ℕ
opens body =
    answered
    (λ (m : OpenChannelMessage).
    gives
    (flag (is_session m.typ)
    ∷ m.recipient_channel
    ∷ m.recipient_window_size
    ∷ m.recipient_maximum_packet_size
    ∷ []))
    (read_open body)

-- a side with these kex, cipher and MAC numbers and the key ssh-ed25519, as client
abbrev pub client : List ℕ → List ℕ → List ℕ → Tables
client kex cipher mac = tables Client kex (0 ∷ []) [] cipher mac (0 ∷ []) [] [] [] []

-- and as server: it holds one Ed25519 key and no certificate, so that the key name is the first of its list
abbrev pub server : List ℕ → List ℕ → List ℕ → Tables
server kex cipher mac = tables Server kex (0 ∷ []) [] cipher mac (0 ∷ []) (0 ∷ []) (1 ∷ []) [] []

abbrev pub cookie : List ℕ
cookie = replicate 16 7

-- a KEXINIT with any names and any follows byte (RFC 4253 section 7.1), which our own writer never has
abbrev pub kex_init_of : List (List ℕ) → List (List ℕ) → List (List ℕ) → List (List ℕ) → List (List ℕ) → ℕ → List ℕ
kex_init_of kex key cipher mac compression follows =
    encoded cookie
    (record {
      kex = kex;
      key = key;
      client_cipher = cipher;
      server_cipher = cipher;
      client_mac = mac;
      server_mac = mac;
      client_compression = compression;
      server_compression = compression;
      client_languages = [];
      server_languages = [];
      follows = follows;
      reserved = 0;
    })

-- a peer's KEXINIT read by a side: the MACs settled on, client to server and server to client
abbrev pub settles_macs : Tables → List ℕ → List ℕ
settles_macs t p = answered (λ (n : Names). gives (n.client_mac.0 ∷ n.server_mac.0 ∷ [])) (read_kex t false p)

-- and whether the guess is ignored
abbrev pub ignores_guess : Tables → List ℕ → List ℕ
ignores_guess t p = answered (λ (n : Names). gives (flag n.flags.ignore_guessed ∷ [])) (read_kex t false p)
