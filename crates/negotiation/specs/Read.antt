-- What a side settles on when it reads a peer's KEXINIT (document 01, "KEXINIT", Reading and Choice): fields and choices
-- alternate.
use Rattle.std.specs.Prelude.{Bool, true, false, not, ◌&&◌, ◌||◌, List, ℕ, leb, eqb, length, get_or, Result}
use Rattle.std.proofs.Math.Option.{Option, some, none}
use Rattle.answer.specs.declared.Refusal.{Refusal as Answered}
use Rattle.answer.specs.Answer.{Out, done, refuse_at, guard, pick, outcome, ◌>>=◌}
use Rattle.text.specs.Same.{same}
use Rattle.text.specs.Literal.{bytes}
use Rattle.wire.specs.Fields.{here, byte, word, string, end}
use Rattle.names.specs.Tables.{need_mac, built_in}
use Rattle.names.specs.Lookup.{number_of}
use Rattle.names.specs.declared.Kind.{Kind}
use Rattle.names.specs.declared.Kind.TheVariants.{Kex, Key, Certificate, Cipher, Mac, Compression}
use Rattle.choice.specs.Choice.{listed, chosen, both_first}
use Rattle.choice.specs.Rows.{row_spelled, spelled_rows}
use Rattle.judging.specs.Tables.{Tables, valid}
use Rattle.filters.specs.Picked.{member}
use Rattle.preferred.specs.Own.{strict_name, other, chosen_kex}
use Rattle.negotiation.specs.declared.Names.{Names}
use Rattle.negotiation.specs.KexInit.{offer}
use Rattle.negotiation.specs.Written.{key_list, cipher_list, mac_list, compression_list}

-- "KEXINIT payload over 262,176 bytes" is 1 (docs/DIFFERENCES.md, R14, X5)
abbrev pub most_kex_init : ℕ
most_kex_init = 262176

-- a category that needs a shared name: without one, its number, and where the peer's list stands (docs/DIFFERENCES.md, R11:
-- a list may be empty)
unfoldable pub settle : ℕ → ℕ → Option (List ℕ) → Out (List ℕ)
settle n i none = refuse_at n i
settle n i (some name) = done name

-- a name's number in its kind; a chosen name always has one, in the own list (`all_known`, proofs/KnownLaws.antt)
abbrev pub or_zero : Option ℕ → ℕ
or_zero none = 0
or_zero (some n) = n

unfoldable pub number : Kind → List ℕ → ℕ
number k name = or_zero (number_of k name)

unfoldable pub needs_mac : List ℕ → Bool
needs_mac cipher = get_or need_mac (number Cipher cipher) false

unfoldable pub has_integrity : List ℕ → Bool
has_integrity cipher = get_or built_in (number Cipher cipher) false

abbrev pub no_mac : List ℕ
no_mac = bytes "none"

-- "MAC: no shared name gives `none` if the cipher needs no MAC, else 13; a first shared name `none` under a cipher that
-- needs one gives 13, even if another name is shared." (docs/DIFFERENCES.md, R12)
unfoldable pub settle_mac : List ℕ → ℕ → Option (List ℕ) → Out (List ℕ)
settle_mac cipher i none = pick (needs_mac cipher) (refuse_at 13 i) (done no_mac)
settle_mac cipher i (some mac) = pick (needs_mac cipher && same mac no_mac) (refuse_at 13 i) (done mac)

-- "Strict: own preferences hold the own-side strict name and the peer's kex list holds the other; or the caller's
-- strict-rekey flag."
unfoldable pub strict : Tables → Bool → List (List ℕ) → Bool
strict t strict_agreed peer = (member (strict_name t.side) t.kex && listed (row_spelled (strict_name (other t.side))) peer) || strict_agreed

-- "The key choice [..] says whether a certificate name was chosen; the key number is the plain one."
abbrev pub is_some : Option ℕ → Bool
is_some none = false
is_some (some n) = true

unfoldable pub is_certificate : List ℕ → Bool
is_certificate name = is_some (number_of Certificate name)

unfoldable pub key_number : List ℕ → ℕ
key_number name = pick (is_certificate name) (number Certificate name) (number Key name)

-- the names that a side chose
pub record Choices : Type 0 where
  pub kex : List ℕ
  pub key : List ℕ
  pub cipher : List ℕ
  pub client_mac : List ℕ
  pub server_mac : List ℕ
  pub client_compression : List ℕ
  pub server_compression : List ℕ

-- the record of them, and of whether a guess is ignored and the exchange strict
unfoldable pub settled : Choices → Bool → Bool → Names
settled c ignore is_strict =
    record {
      kex = record { 0 = number Kex c.kex };
      key = record { 0 = key_number c.key };
      cipher = record { 0 = number Cipher c.cipher };
      client_mac = record { 0 = number Mac c.client_mac };
      server_mac = record { 0 = number Mac c.server_mac };
      client_compression = record { 0 = number Compression c.client_compression };
      server_compression = record { 0 = number Compression c.server_compression };
      flags = record { host_key_is_certificate = is_certificate c.key; ignore_guessed = ignore; strict_kex = is_strict };
    }

-- "Fields and choices alternate" (docs/DIFFERENCES.md, C1, R8, R9, R10, R23, R24). A choice is refused where its list stands
-- (document 02, No. 6); the first list stands at 17.
unfoldable pub read_kex : Tables → Bool → List ℕ → Out Names
read_kex t strict_agreed p = do
  _ ← guard 9 (valid t)
  _ ← guard 1 (leb (length p) most_kex_init)
  _ ← guard 6 (leb 17 (length p))
  (kexes, c₁) ← offer (here p 17)
  kex ← settle 10 17 (chosen t.side (spelled_rows (chosen_kex t)) kexes)
  (keys, c₂) ← offer c₁
  key ← settle 11 c₁.at (chosen t.side (key_list t) keys)
  (ciphers, c₃) ← offer c₂
  cipher ← settle 12 c₂.at (chosen t.side (cipher_list t) ciphers)
  (_, c₄) ← string c₃
  (macs, c₅) ← offer c₄
  client_mac ← settle_mac cipher c₄.at (chosen t.side (mac_list t) macs)
  (macs', c₆) ← offer c₅
  server_mac ← settle_mac cipher c₅.at (chosen t.side (mac_list t) macs')
  (compressions, c₇) ← offer c₆
  client_compression ← settle 14 c₆.at (chosen t.side (compression_list t) compressions)
  (compressions', c₈) ← offer c₇
  server_compression ← settle 14 c₇.at (chosen t.side (compression_list t) compressions')
  (_, c₉) ← string c₈
  (_, c₁₀) ← string c₉
  (follows, c₁₁) ← byte c₁₀
  (_, c₁₂) ← word c₁₁
  _ ← end c₁₂
  done
      (settled
      (record {
        kex = kex;
        key = key;
        cipher = cipher;
        client_mac = client_mac;
        server_mac = server_mac;
        client_compression = client_compression;
        server_compression = server_compression;
      })
      (not (eqb follows 0) && not (both_first (spelled_rows (chosen_kex t)) kexes && both_first (key_list t) keys))
      (strict t strict_agreed kexes))

-- what the names that were settled mean
abbrev pub got_names : Result Names Answered → Out Names
got_names r = outcome (λ n. n) r
