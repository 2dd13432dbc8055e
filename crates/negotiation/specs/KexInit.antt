-- A KEXINIT as it stands, with nothing chosen: its fields, how they are encoded, and how they are read (document 01,
-- "KEXINIT"; RFC 4253 section 7.1).
use mathlib.Core.List.{List, [], ◌∷◌, ◌++◌, flatten}
use Rattle.std.specs.Prelude.{ℕ, length}
use Rattle.answer.specs.Answer.{Out, done, ◌>>=◌}
use Rattle.put.specs.Written.{word as encoded_word}
use Rattle.wire.specs.Fields.{At, here, byte, word, string, end}
use Rattle.commas.specs.Cut.{cut, join}
use Rattle.namelist.specs.Judged.{name_list}

-- the lists by their names; `client` is client to server, `server` the other way
pub record Offers : Type 0 where
  pub kex : List (List ℕ)
  pub key : List (List ℕ)
  pub client_cipher : List (List ℕ)
  pub server_cipher : List (List ℕ)
  pub client_mac : List (List ℕ)
  pub server_mac : List (List ℕ)
  pub client_compression : List (List ℕ)
  pub server_compression : List (List ℕ)
  pub client_languages : List ℕ
  pub server_languages : List ℕ
  pub follows : ℕ
  pub reserved : ℕ

-- a string as a field, and a name-list as one: "Names are joined by commas in preference order."
unfoldable pub text_field : List ℕ → List ℕ
text_field x = encoded_word (length x) ++ x

abbrev pub list_field : List (List ℕ) → List ℕ
list_field names = text_field (join names)

-- the fields in their order, each encoded
abbrev pub fields : Offers → List (List ℕ)
fields k =
    list_field k.kex
    ∷ list_field k.key
    ∷ list_field k.client_cipher
    ∷ list_field k.server_cipher
    ∷ list_field k.client_mac
    ∷ list_field k.server_mac
    ∷ list_field k.client_compression
    ∷ list_field k.server_compression
    ∷ text_field k.client_languages
    ∷ text_field k.server_languages
    ∷ (k.follows ∷ [])
    ∷ encoded_word k.reserved
    ∷ []

-- 20, the cookie, the fields
unfoldable pub encoded : List ℕ → Offers → List ℕ
encoded cookie k = 20 ∷ (cookie ++ flatten (fields k))

-- a name-list field, as its names
unfoldable pub offer : At → Out (List (List ℕ) × At)
offer c = do
  (t, d) ← name_list c
  done (cut t.bytes, d)

-- the fields of a payload; they start at 17
unfoldable pub offers : List ℕ → Out Offers
offers p = do
  (kex, c₁) ← offer (here p 17)
  (key, c₂) ← offer c₁
  (client_cipher, c₃) ← offer c₂
  (server_cipher, c₄) ← offer c₃
  (client_mac, c₅) ← offer c₄
  (server_mac, c₆) ← offer c₅
  (client_compression, c₇) ← offer c₆
  (server_compression, c₈) ← offer c₇
  (client_languages, c₉) ← string c₈
  (server_languages, c₁₀) ← string c₉
  (follows, c₁₁) ← byte c₁₀
  (reserved, c₁₂) ← word c₁₁
  _ ← end c₁₂
  done
      (record {
        kex = kex;
        key = key;
        client_cipher = client_cipher;
        server_cipher = server_cipher;
        client_mac = client_mac;
        server_mac = server_mac;
        client_compression = client_compression;
        server_compression = server_compression;
        client_languages = client_languages.bytes;
        server_languages = server_languages.bytes;
        follows = follows;
        reserved = reserved;
      })
