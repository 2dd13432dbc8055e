-- Well-formed UTF-8 by the ABNF of RFC 3629 section 4: overlong forms, surrogates and what lies above 10FFFF match no row.
use Rattle.std.specs.Prelude.{Bool, true, false, ◌&&◌, List, [], ◌∷◌, ℕ, leb}
use Rattle.answer.specs.Answer.{pick}

-- %xLOW-HIGH
pub record Range : Type 0 where
  pub low : ℕ
  pub high : ℕ

infix 80 ◌to◌
abbrev pub ◌to◌ : ℕ → ℕ → Range
◌to◌ a b = record { low = a; high = b }

abbrev pub within : Range → ℕ → Bool
within r b = leb r.low b && leb b r.high

-- UTF8-tail = %x80-BF
abbrev pub tail : Range
tail = 0x80 to 0xBF

-- UTF8-char, its alternatives in the RFC's order. No byte is in the first range of two rows.
unfoldable pub rows : List (List Range)
rows =
    (0x00 to 0x7F ∷ [])
    ∷ (0xC2 to 0xDF ∷ tail ∷ [])
    ∷ (0xE0 to 0xE0 ∷ 0xA0 to 0xBF ∷ tail ∷ [])
    ∷ (0xE1 to 0xEC ∷ tail ∷ tail ∷ [])
    ∷ (0xED to 0xED ∷ 0x80 to 0x9F ∷ tail ∷ [])
    ∷ (0xEE to 0xEF ∷ tail ∷ tail ∷ [])
    ∷ (0xF0 to 0xF0 ∷ 0x90 to 0xBF ∷ tail ∷ tail ∷ [])
    ∷ (0xF1 to 0xF3 ∷ tail ∷ tail ∷ tail ∷ [])
    ∷ (0xF4 to 0xF4 ∷ 0x80 to 0x8F ∷ tail ∷ tail ∷ [])
    ∷ []

-- What may still come of a character: nothing more of it (`more []`), these ranges, or it was no character.
pub data Wanted : Type 0 where
  bad : Wanted
  more : List Range → Wanted

-- the rest of the row that a character's first byte opens
abbrev pub opened : List (List Range) → ℕ → Wanted
opened [] b = bad
opened ([] ∷ rs) b = opened rs b
opened ((r ∷ row) ∷ rs) b = pick (within r b) (more row) (opened rs b)

-- one byte on
unfoldable pub next : Wanted → ℕ → Wanted
next bad b = bad
next (more []) b = opened rows b
next (more (r ∷ row)) b = pick (within r b) (more row) bad

abbrev pub between : Wanted → Bool
between bad = false
between (more []) = true
between (more (r ∷ row)) = false

-- UTF8-octets = *( UTF8-char ), from the middle of a character on
unfoldable pub octets : Wanted → List ℕ → Bool
octets w [] = between w
octets w (b ∷ s) = octets (next w b) s

unfoldable pub utf8 : List ℕ → Bool
utf8 s = octets (more []) s
