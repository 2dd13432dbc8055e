-- Clear packets (RFC 4253 section 6), as `read` and `write` of src/cipher/mod.rs and src/cipher/clear.rs take and make
-- them: document 01, "Clear packets".
use Rattle.std.specs.Prelude.{ℕ, ◌+◌, ◌-◌, ◌%◌, min, List, ◌∷◌, ◌++◌, length, replicate, ◌==◌, nat_le, nat_lt, slice_index}
use Rattle.answer.specs.Answer.{Out, done, guard, guard_at, pick, ◌>>=◌}
use Rattle.put.specs.Written.{word}
use Rattle.wire.specs.Fields.{big_endian}
use Rattle.framing.specs.declared.Counters.{Counters}
use Rattle.framing.specs.declared.Packet.{Packet}

-- MAXIMUM_PACKET_LEN of src/cipher/mod.rs (docs/DIFFERENCES.md, R4 and R16)
abbrev pub most_length : ℕ
most_length = 262177

-- the largest byte count: 2^64 - 1 (docs/DIFFERENCES.md, X1)
abbrev pub most_count : ℕ
most_count = 18446744073709551615

-- "With n payload bytes, p = 8 minus (5 + n) mod 8, plus 8 if under 4."
unfoldable pub padding_length : ℕ → ℕ
padding_length n = pick (nat_lt (8 - (5 + n) % 8) 4) (8 - (5 + n) % 8 + 8) (8 - (5 + n) % 8)

-- "Packet length is 1 + n + p."
abbrev pub packet_length : ℕ → ℕ
packet_length n = 1 + n + padding_length n

-- "The largest payload is 262,167": a longer one is refused as every length over most_length is (proofs/WriteLaws.antt;
-- docs/DIFFERENCES.md, R16).
abbrev pub most_payload : ℕ
most_payload = 262167

-- Judging the length that a packet announces, or that is to be written (docs/DIFFERENCES.md, R2 and R4).
unfoldable pub judged_length : ℕ → Out (Unit {0})
judged_length len = guard 4 (nat_le len most_length)

-- Judging the padding of a packet that is whole. Padding under 4, a length that is no multiple of 8, and padding that leaves
-- no room for the byte that says it are taken (docs/DIFFERENCES.md, R1, R2 and R15). The padding's byte stands at 4.
unfoldable pub judged_padding : ℕ → ℕ → Out (Unit {0})
judged_padding len padding = guard_at 7 4 (nat_le padding len)

-- The counters of a direction after a packet with n payload bytes: the sequence number goes up by one, modulo 2^32; the
-- byte count stops at its largest value, and nothing sets either back (docs/DIFFERENCES.md, C8, C9, X1 and X3).
unfoldable pub counted : ℕ → Counters → Counters
counted n k = record { seqn = (k.seqn + 1) % 4294967296; bytes = min (k.bytes + n) most_count }

-- "4-byte packet length, 1-byte padding length, payload, zero padding" (docs/DIFFERENCES.md, R3; of an empty payload, too:
-- C10 and X2)
unfoldable pub frame : List ℕ → List ℕ
frame payload =
    word (packet_length (length payload))
    ++ (padding_length (length payload) ∷ payload)
    ++ replicate (padding_length (length payload)) 0

-- The packet that is written of a payload (docs/DIFFERENCES.md, X5).
unfoldable pub packet_of : List ℕ → Out (List ℕ)
packet_of payload = do
  _ ← judged_length (packet_length (length payload))
  done (frame payload)

-- What is read: more bytes are needed, so many in all, or the packet.
pub data Read : Type 0 where
  need : ℕ → Read
  packet : Packet → Read

-- the length that a packet announces in its first four bytes
unfoldable pub announced : List ℕ → ℕ
announced s = big_endian (slice_index s 0) (slice_index s 1) (slice_index s 2) (slice_index s 3)

-- the padding: "the byte after the length, 0 if length is 0" (docs/DIFFERENCES.md, R15)
unfoldable pub padding_of : List ℕ → ℕ → ℕ
padding_of s len = pick (len == 0) 0 (slice_index s 4)

-- "End is length minus padding plus 4; payload length is length minus padding minus 1, not below 0; the payload is the
-- bytes from 5 up to end, none if end is 4. Bytes taken: length + 4." So the payload starts at end minus its length
-- (docs/DIFFERENCES.md, R15).
unfoldable pub packet_at : ℕ → ℕ → Counters → Packet
packet_at len padding k =
    record {
      payload = record { start = len - padding + 4 - (len - padding - 1); len = len - padding - 1 };
      end = len - padding + 4;
      taken = len + 4;
      counters = counted (len - padding - 1) k;
    }

-- a packet that is whole
unfoldable pub whole_packet : List ℕ → ℕ → Counters → Out Read
whole_packet s len k = do
  _ ← judged_padding len (padding_of s len)
  done (packet (packet_at len (padding_of s len) k))

-- "Under 4 bytes: the answer is "need 4". Then refusal 4. Then, under length + 4 bytes: "need length + 4"." What is no packet
-- hands back no counters: the caller's are as they were (docs/DIFFERENCES.md, C11 and X4).
unfoldable pub read_packet : List ℕ → Counters → Out Read
read_packet s k =
    pick (nat_lt (length s) 4) (done (need 4)) (do
      _ ← judged_length (announced s)
      pick (nat_lt (length s) (announced s + 4)) (done (need (announced s + 4))) (whole_packet s (announced s) k))
