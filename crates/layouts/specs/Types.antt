-- The channel types (RFC 4254 sections 6.3.2 and 7.2; the @openssh.com types follow src/parsing.rs): what follows the four
-- fields of an opening. Document 01, "Channel opening".
use Rattle.std.specs.Prelude.{length, Result}
use Rattle.answer.specs.declared.Refusal.{Refusal as Answered}
use Rattle.answer.specs.Answer.{Out, done, pick, outcome, ◌>>=◌}
use Rattle.text.specs.Literal.{bytes}
use Rattle.text.specs.Same.{same}
use Rattle.wire.specs.declared.place.Place.{Place}
use Rattle.wire.specs.Fields.{At, Run, word, string, end}
use Rattle.layouts.specs.declared.ChannelType.{ChannelType}
use Rattle.layouts.specs.declared.ChannelType.TheVariants.{Session, X11, DirectTcpip, DirectStreamLocal, ForwardedTcpIp, ForwardedStreamLocal, AgentForward, Unknown}
use Rattle.layouts.specs.declared.TcpChannelInfo.{TcpChannelInfo}

-- a known type, once its fields are read: "end". `session` and `auth-agent@openssh.com` have no field of their own
unfoldable pub exact : ChannelType → At → Out ChannelType
exact t c = do
  _ ← end c
  done t

-- `x11`: string, u32, end (docs/DIFFERENCES.md, R18)
unfoldable pub x11 : At → Out ChannelType
x11 c = do
  (address, c₁) ← string c
  (port, c₂) ← word c₁
  exact (X11 address.place port) c₂

-- `direct-tcpip`, `forwarded-tcpip`: string, u32, string, u32, end (docs/DIFFERENCES.md, R18 and R22)
unfoldable pub tcpip : (TcpChannelInfo → ChannelType) → At → Out ChannelType
tcpip made c = do
  (host, c₁) ← string c
  (port, c₂) ← word c₁
  (address, c₃) ← string c₂
  (from, c₄) ← word c₃
  exact
      (made
      (record { host_to_connect = host.place; port_to_connect = port; originator_address = address.place; originator_port = from }))
      c₄

-- `direct-streamlocal@openssh.com`: path, string, u32, end; the last two are reserved: read and judged, not kept
-- (docs/DIFFERENCES.md, R20)
unfoldable pub direct_stream_local : At → Out ChannelType
direct_stream_local c = do
  (path, c₁) ← string c
  (_, c₂) ← string c₁
  (_, c₃) ← word c₂
  exact (DirectStreamLocal (record { socket_path = path.place })) c₃

-- `forwarded-streamlocal@openssh.com`: path, string, end; the string is reserved (docs/DIFFERENCES.md, R20)
unfoldable pub forwarded_stream_local : At → Out ChannelType
forwarded_stream_local c = do
  (path, c₁) ← string c
  (_, c₂) ← string c₁
  exact (ForwardedStreamLocal (record { socket_path = path.place })) c₂

-- all that is left
abbrev pub left_at : At → Place
left_at c = record { start = c.at; len = length c.left }

-- the types of OpenSSH; "any other type is kept as unknown and the rest of the body is handed back as it stands"
-- (docs/DIFFERENCES.md, R13 and R17)
unfoldable pub openssh_type : Run → At → Out ChannelType
openssh_type t c =
    pick (same t.bytes (bytes "direct-streamlocal@openssh.com")) (direct_stream_local c)
    (pick (same t.bytes (bytes "forwarded-streamlocal@openssh.com")) (forwarded_stream_local c)
    (pick (same t.bytes (bytes "auth-agent@openssh.com")) (exact AgentForward c)
    (done (Unknown t.place (left_at c)))))

-- the types of RFC 4254, then those
unfoldable pub channel_type : Run → At → Out ChannelType
channel_type t c =
    pick (same t.bytes (bytes "session")) (exact Session c)
    (pick (same t.bytes (bytes "x11")) (x11 c)
    (pick (same t.bytes (bytes "direct-tcpip")) (tcpip DirectTcpip c)
    (pick (same t.bytes (bytes "forwarded-tcpip")) (tcpip ForwardedTcpIp c)
    (openssh_type t c))))

-- what the code's answer means: document 01's number, or the type
abbrev pub got_type : Result ChannelType Answered → Out ChannelType
got_type r = outcome (λ t. t) r
