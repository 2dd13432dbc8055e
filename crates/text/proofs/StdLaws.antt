-- What std calls UTF-8, the bytes of some characters, is what the rows of RFC 3629 are. Assumes nothing.
use mathlib.Core.Bool.{Bool, true, false}
use mathlib.Core.List.{List, [], ◌∷◌, Memᴰ}
use mathlib.Core.Logic.{◌⊎◌, inl, inr}
use mathlib.Core.Path.{◌≡◌, refl, sym, ◌∙◌, subst}
use Prim.Native.Nat.{ℕ, zero, suc, ◌≤◌, ◌<◌, ◌+◌, ◌-◌, ◌*◌, ◌/◌, ◌%◌}
use native.Mathlib.Omega.{arith}
use borrow.Author.Tests.{lt-ltb, le-ltb, le-leb}
use lib.ListN.{length, get_or}
use lib.Utf8.{scalar, scalars, encode, encodes, low_scalar, scalar_cases}
use Rattle.std.proofs.lemmas.Bool.{cases_lt}
use Rattle.std.proofs.lemmas.Str.{IsUtf8-encode, IsUtf8-append, IsUtf8-nil}
use Rattle.std.proofs.Common.{Bor}
use Rattle.std.specs.Prelude.{Result, Ok, Err, MatchResult}
use Rattle.std.specs.Result.{is_ok}
use Rattle.std.specs.Str.{IsUtf8, IsValidUpTo, valid_up_to}
use Rattle.std.specs.declared.str.Utf8Error.{Utf8Error}
use Rattle.answer.proofs.Laws.{and_left, and_right}
use Rattle.text.specs.Utf8.{Range, utf8, rows, tail, ◌to◌}
use Rattle.text.proofs.GrammarLaws.{utf8_complete, utf8_sound}
use Rattle.text.specs.Grammar.{Matches, end, byte, Octets, empty, char}

-- the bytes of a character, by how many they are
encode_two : (c : ℕ) → 128 ≤ c → c < 2048 → encode c ≡ (192 + c / 64) ∷ (128 + c % 64) ∷ []
unfolding encode
encode_two c l h = rw (le-ltb c 128 l, lt-ltb c 2048 h)

encode_three : (c : ℕ) → 2048 ≤ c → c < 65536 → encode c ≡ (224 + c / 4096) ∷ (128 + c / 64 % 64) ∷ (128 + c % 64) ∷ []
unfolding encode
encode_three c l h = rw (le-ltb c 128 (omega arith), le-ltb c 2048 l, lt-ltb c 65536 h)

encode_four : (c : ℕ) → 65536 ≤ c → encode c ≡ (240 + c / 262144) ∷ (128 + c / 4096 % 64) ∷ (128 + c / 64 % 64) ∷ (128 + c % 64) ∷ []
unfolding encode
encode_four c l = rw (le-ltb c 128 (omega arith), le-ltb c 2048 (omega arith), le-ltb c 65536 l)

-- the nth row is a row
nth : {A : Type 0} (l : List A) (n : ℕ) (d : A) → n < length l → Memᴰ (get_or l n d) l
nth [] n d h = absurd (omega arith)
nth (x ∷ l) zero d h = Memᴰ.head refl
nth (x ∷ l) (suc n) d h = Memᴰ.tail (nth l n d (omega arith))

data InRow (s : List ℕ) : Type 0 where
  in_row : (n : ℕ) → n < 9 → Matches (get_or rows n []) s → InRow s

one : {r : Range} {a : ℕ} → r.low ≤ a → a ≤ r.high → Matches (r ∷ []) (a ∷ [])
one l h = byte l h end

two_in_row : (c : ℕ) → 128 ≤ c → c < 2048 → InRow ((192 + c / 64) ∷ (128 + c % 64) ∷ [])
unfolding rows
two_in_row c l h = in_row 1 (omega arith) (byte (omega arith) (omega arith) (one (omega arith) (omega arith)))

three_in_row : (c : ℕ) → 2048 ≤ c → c < 65536 → (c < 55296) ⊎ ((57344 ≤ c) × (c < 1114112)) → InRow ((224 + c / 4096) ∷ (128 + c / 64 % 64) ∷ (128 + c % 64) ∷ [])
unfolding rows
three_in_row c l h range =
    elim (cases_lt c 4096) [
      | inl a ↦ in_row 2 (omega arith) (byte (omega arith) (omega arith) (byte (omega arith) (omega arith) (one (omega arith) (omega arith))))
      | inr a ↦ elim (cases_lt c 53248) [
        | inl b ↦ in_row 3 (omega arith) (byte (omega arith) (omega arith) (byte (omega arith) (omega arith) (one (omega arith) (omega arith))))
        | inr b ↦ elim (cases_lt c 55296) [
          | inl d ↦ in_row 4 (omega arith) (byte (omega arith) (omega arith) (byte (omega arith) (omega arith) (one (omega arith) (omega arith))))
          | inr d ↦ in_row 5 (omega arith) (byte (omega arith) (omega arith) (byte (omega arith) (omega arith) (one (omega arith) (omega arith))))
        ]
      ]
    ]

four_in_row : (c : ℕ) → 65536 ≤ c → c < 1114112 → InRow ((240 + c / 262144) ∷ (128 + c / 4096 % 64) ∷ (128 + c / 64 % 64) ∷ (128 + c % 64) ∷ [])
unfolding rows
four_in_row c l h =
    elim (cases_lt c 262144) [
      | inl a ↦ in_row 6 (omega arith) (byte (omega arith) (omega arith) (byte (omega arith) (omega arith) (byte (omega arith) (omega arith) (one (omega arith) (omega arith)))))
      | inr a ↦ elim (cases_lt c 1048576) [
        | inl b ↦ in_row 7 (omega arith) (byte (omega arith) (omega arith) (byte (omega arith) (omega arith) (byte (omega arith) (omega arith) (one (omega arith) (omega arith)))))
        | inr b ↦ in_row 8 (omega arith) (byte (omega arith) (omega arith) (byte (omega arith) (omega arith) (byte (omega arith) (omega arith) (one (omega arith) (omega arith)))))
      ]
    ]

-- each character is in a row
char_in_row : (c : ℕ) → scalar c ≡ true → InRow (encode c)
unfolding rows encode
char_in_row c ok =
    let range = scalar_cases c ok in
    elim (cases_lt c 128) [
      | inl a ↦ rw (lt-ltb c 128 a) (in_row 0 (omega arith) (one (omega arith) (omega arith)))
      | inr a ↦ elim (cases_lt c 2048) [
        | inl b ↦ rw (encode_two c a b) (two_in_row c a b)
        | inr b ↦ elim (cases_lt c 65536) [
          | inl d ↦ rw (encode_three c b d) (three_in_row c b d range)
          | inr d ↦ rw (encode_four c d) (four_in_row c d (omega arith))
        ]
      ]
    ]

-- characters are what the grammar yields
chars_octets : (cs : List ℕ) → scalars cs ≡ true → Octets (encodes cs)
unfolding rows
chars_octets [] ok = empty
chars_octets (c ∷ cs) ok =
    elim (char_in_row c (and_left (scalar c) (scalars cs) ok)) [
      | in_row n h m ↦ char (nth rows n [] (omega arith)) m (chars_octets cs (and_right (scalar c) (scalars cs) ok))
    ]

pub std_octets : {s : List ℕ} → IsUtf8 s → Octets s
std_octets (cs, u) = subst Octets u.1 (chars_octets cs u.0)

-- back: what is in a row is a character
scalar_of : (c : ℕ) → (c < 55296) ⊎ ((57344 ≤ c) × (c < 1114112)) → scalar c ≡ true
scalar_of c (inl h) = low_scalar c h
scalar_of c (inr h) = rw (le-ltb c 55296 (omega arith), le-leb 57344 c h.0, lt-ltb c 1114112 h.1)

std_one : (a : ℕ) → a < 128 → IsUtf8 (a ∷ [])
unfolding encode
std_one a h = subst IsUtf8 (rw (lt-ltb a 128 h)) (IsUtf8-encode a (scalar_of a (inl (omega arith))))

std_two : (a b : ℕ) → (194 ≤ a) × (a < 224) × (128 ≤ b) × (b < 192) → IsUtf8 (a ∷ b ∷ [])
std_two a b h =
    let c = (a - 192) * 64 + (b - 128) in
    let x : 192 + c / 64 ≡ a = omega arith in
    let y : 128 + c % 64 ≡ b = omega arith in
    subst IsUtf8 (encode_two c (omega arith) (omega arith) ∙ cc (x, y)) (IsUtf8-encode c (scalar_of c (inl (omega arith))))

abbrev three : ℕ → ℕ → ℕ → ℕ
three a b d = (a - 224) * 4096 + (b - 128) * 64 + (d - 128)

std_three : (a b d : ℕ)
    → (224 ≤ a) × (a < 240) × (128 ≤ b) × (b < 192) × (128 ≤ d) × (d < 192) × (2048 ≤ three a b d)
    → (three a b d < 55296) ⊎ ((57344 ≤ three a b d) × (three a b d < 1114112))
    → IsUtf8 (a ∷ b ∷ d ∷ [])
std_three a b d h range =
    let x : 224 + three a b d / 4096 ≡ a = omega arith in
    let y : 128 + three a b d / 64 % 64 ≡ b = omega arith in
    let z : 128 + three a b d % 64 ≡ d = omega arith in
    subst IsUtf8 (encode_three (three a b d) (omega arith) (omega arith) ∙ cc (x, y, z)) (IsUtf8-encode (three a b d) (scalar_of (three a b d) range))

abbrev four : ℕ → ℕ → ℕ → ℕ → ℕ
four a b d e = ((a - 240) * 4096 + (b - 128) * 64 + (d - 128)) * 64 + (e - 128)

std_four : (a b d e : ℕ)
    → (240 ≤ a) × (128 ≤ b) × (b < 192) × (128 ≤ d) × (d < 192) × (128 ≤ e) × (e < 192) × (65536 ≤ four a b d e) × (four a b d e < 1114112)
    → IsUtf8 (a ∷ b ∷ d ∷ e ∷ [])
std_four a b d e h =
    let s : four a b d e / 64 ≡ (a - 240) * 4096 + (b - 128) * 64 + (d - 128) = omega arith in
    let x : 240 + four a b d e / 262144 ≡ a = omega arith in
    let y : 128 + four a b d e / 4096 % 64 ≡ b = omega arith in
    let z : 128 + four a b d e / 64 % 64 ≡ d = rw s (omega arith) in
    let w : 128 + four a b d e % 64 ≡ e = omega arith in
    subst IsUtf8 (encode_four (four a b d e) (omega arith) ∙ cc (x, y, z, w)) (IsUtf8-encode (four a b d e) (scalar_of (four a b d e) (inr (omega arith))))

-- what each row's bytes are
abbrev Text : List Range → Type 0
Text r = (s : List ℕ) → Matches r s → IsUtf8 s

row_1 : Text (0x00 to 0x7F ∷ [])
row_1 s (byte l h end) = std_one _ (omega arith)

row_2 : Text (0xC2 to 0xDF ∷ tail ∷ [])
row_2 s (byte l h (byte m k end)) = std_two _ _ (omega arith)

row_3 : Text (0xE0 to 0xE0 ∷ 0xA0 to 0xBF ∷ tail ∷ [])
row_3 s (byte l h (byte m k (byte n j end))) = std_three _ _ _ (omega arith) (inl (omega arith))

row_4 : Text (0xE1 to 0xEC ∷ tail ∷ tail ∷ [])
row_4 s (byte l h (byte m k (byte n j end))) = std_three _ _ _ (omega arith) (inl (omega arith))

row_5 : Text (0xED to 0xED ∷ 0x80 to 0x9F ∷ tail ∷ [])
row_5 s (byte l h (byte m k (byte n j end))) = std_three _ _ _ (omega arith) (inl (omega arith))

row_6 : Text (0xEE to 0xEF ∷ tail ∷ tail ∷ [])
row_6 s (byte l h (byte m k (byte n j end))) = std_three _ _ _ (omega arith) (inr (omega arith))

row_7 : Text (0xF0 to 0xF0 ∷ 0x90 to 0xBF ∷ tail ∷ tail ∷ [])
row_7 s (byte l h (byte m k (byte n j (byte p q end)))) = std_four _ _ _ _ (omega arith)

row_8 : Text (0xF1 to 0xF3 ∷ tail ∷ tail ∷ tail ∷ [])
row_8 s (byte l h (byte m k (byte n j (byte p q end)))) = std_four _ _ _ _ (omega arith)

row_9 : Text (0xF4 to 0xF4 ∷ 0x80 to 0x8F ∷ tail ∷ tail ∷ [])
row_9 s (byte l h (byte m k (byte n j (byte p q end)))) = std_four _ _ _ _ (omega arith)

abbrev Each : List (List Range) → Type 0
Each [] = Unit {0}
Each (r ∷ rs) = Text r × Each rs

each : {r : List Range} (rs : List (List Range)) → Each rs → Memᴰ r rs → Text r
each [] t m = elim m [ ]
each (r ∷ rs) t (Memᴰ.head p) = subst Text (sym p) t.0
each (r ∷ rs) t (Memᴰ.tail m) = each rs t.1 m

texts : Each rows
unfolding rows
texts = (row_1, (row_2, (row_3, (row_4, (row_5, (row_6, (row_7, (row_8, (row_9, tt)))))))))

-- what the grammar yields are characters
pub octets_std : {s : List ℕ} → Octets s → IsUtf8 s
octets_std empty = IsUtf8-nil
octets_std (char {c} {s} m x o) = IsUtf8-append c s (each rows texts m c x) (octets_std o)

-- so the test of `str::from_utf8` is the test of RFC 3629
untrue : (t : Bool) → (t ≡ true → ⊥) → t ≡ false
untrue true h = absurd (h refl)
untrue false h = refl

pub std_utf8 : (b : Bool) (s : List ℕ) (r : Result (Bor (List ℕ)) Utf8Error)
    → b ≡ is_ok r
    → MatchResult r (λ t. (t.now ≡ s) × IsUtf8 s) (λ e. (IsUtf8 s → ⊥) × IsValidUpTo s (valid_up_to e))
    → b ≡ utf8 s
std_utf8 b s (Ok t) e h = rw e (sym (utf8_complete (std_octets h.1)))
std_utf8 b s (Err x) e h = rw e (sym (untrue (utf8 s) (λ t. h.0 (octets_std (utf8_sound s t)))))
