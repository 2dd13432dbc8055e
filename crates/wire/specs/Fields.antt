-- Fields of a message (RFC 4251 section 5), read one after the other. A field is refused where its first byte stands, which
-- is its length's (document 02, No. 6).
use Rattle.std.specs.Prelude.{List, ℕ, ◌+◌, ◌*◌, leb, length, get_or, take, drop}
use Rattle.answer.specs.Answer.{Out, done, guard_at, ◌>>=◌}
use Rattle.text.specs.Utf8.{utf8}
use Rattle.wire.specs.declared.place.Place.{Place}

-- How far a reader is in the input, and what is left from there on.
pub record At : Type 0 where
  pub at : ℕ
  pub left : List ℕ

-- at a position of s; past the end nothing is left
abbrev pub here : List ℕ → ℕ → At
here s n = record { at = n; left = drop n s }

abbrev pub skip : ℕ → At → At
skip n c = record { at = c.at + n; left = drop n c.left }

-- A run of bytes that was read: where it stands, and the bytes.
pub record Run : Type 0 where
  pub place : Place
  pub bytes : List ℕ

-- byte
unfoldable pub byte : At → Out (ℕ × At)
byte c = do
  _ ← guard_at 2 c.at (leb 1 (length c.left))
  done (get_or c.left 0 0, skip 1 c)

-- four bytes in order of decreasing significance
abbrev pub big_endian : ℕ → ℕ → ℕ → ℕ → ℕ
big_endian a b c d = ((a * 256 + b) * 256 + c) * 256 + d

-- uint32
unfoldable pub word : At → Out (ℕ × At)
word c = do
  _ ← guard_at 2 c.at (leb 4 (length c.left))
  done (big_endian (get_or c.left 0 0) (get_or c.left 1 0) (get_or c.left 2 0) (get_or c.left 3 0), skip 4 c)

-- string: a uint32 and as many bytes, whatever they are
unfoldable pub run : At → Out (Run × At)
run c = do
  (n, c') ← word c
  _ ← guard_at 2 c.at (leb n (length c'.left))
  done (record { place = record { start = c'.at; len = n }; bytes = take n c'.left }, skip n c')

-- string, as the Rust decodes one: it is UTF-8 (RFC 3629), where RFC 4251 takes any bytes (docs/DIFFERENCES.md, C4, R20)
unfoldable pub string : At → Out (Run × At)
string c = do
  (t, c') ← run c
  _ ← guard_at 3 c.at (utf8 t.bytes)
  done (t, c')

-- nothing is left after the last field: 5 is for the first byte that is
unfoldable pub end : At → Out (Unit {0})
end c = guard_at 5 c.at (leb (length c.left) 0)
