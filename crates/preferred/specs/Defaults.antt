-- `Preferred::DEFAULT` of src/negotiation.rs, in numbers. The row tables are the caller's.
use Rattle.std.specs.Prelude.{List, [], ◌∷◌, ℕ}
use Rattle.choice.specs.declared.Side.{Side}
use Rattle.judging.specs.Tables.{Tables}

-- SAFE_KEX_ORDER: every kex name, in the table's order
abbrev pub default_kex : List ℕ
default_kex = 0 ∷ 1 ∷ 2 ∷ 3 ∷ 4 ∷ 5 ∷ 6 ∷ 7 ∷ 8 ∷ 9 ∷ 10 ∷ 11 ∷ 12 ∷ []

abbrev pub default_key : List ℕ
default_key = 0 ∷ 1 ∷ 2 ∷ 3 ∷ 4 ∷ 5 ∷ 6 ∷ []

-- CIPHER_ORDER: chacha20-poly1305, aes256-gcm, aes256-ctr, aes192-ctr, aes128-ctr
abbrev pub default_cipher : List ℕ
default_cipher = 10 ∷ 6 ∷ 4 ∷ 3 ∷ 2 ∷ []

-- SAFE_HMAC_ORDER: every MAC but none
abbrev pub default_mac : List ℕ
default_mac = 1 ∷ 2 ∷ 3 ∷ 4 ∷ []

abbrev pub default_compression : List ℕ
default_compression = 0 ∷ []

-- "so turning it on is the caller's decision, never a default": no client certificates
abbrev pub defaults : Side → List ℕ → List ℕ → List ℕ → List ℕ → Tables
defaults side key_kinds key_ids cert_kinds cert_ids =
    record {
      side = side;
      kex = default_kex;
      key = default_key;
      certificate = [];
      cipher = default_cipher;
      mac = default_mac;
      compression = default_compression;
      key_kinds = key_kinds;
      key_ids = key_ids;
      cert_kinds = cert_kinds;
      cert_ids = cert_ids;
    }
