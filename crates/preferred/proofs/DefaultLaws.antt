-- The default tables: they are valid, they spell what `Preferred::DEFAULT` lists, and what a server makes of them with a
-- key or two. All by computation. Assumes nothing.
use mathlib.Core.Path.{◌≡◌, refl}
use mathlib.Core.Bool.{true}
use mathlib.Core.List.{List, [], ◌∷◌, map}
use Prim.Native.Nat.{ℕ}
use borrow.Author.Tests.{eq-eqb}
use lib.ListN.{get_or}
use Rattle.names.specs.declared.Kind.{Kind}
use Rattle.names.specs.declared.Kind.TheVariants.{Kex, Key, Cipher, Mac, Compression}
use Rattle.names.specs.Tables.{bytes, kex_names, key_names, certificate_names, cipher_names, mac_names, compression_names, names_of}
use Rattle.choice.specs.declared.Side.TheVariants.{Client, Server}
use Rattle.judging.specs.Tables.{all, below, good_list, good_row_table, each_key_row, agrees, consistent, good_lists, good_tables, may_lend, valid}
use Rattle.choice.specs.Choice.{kept}
use Rattle.filters.specs.Picked.{member, of_kind, held, added, certificates}
use Rattle.preferred.specs.Own.{keys_of, key_list_rows}
use Rattle.preferred.specs.Defaults.{defaults, default_kex, default_key, default_cipher, default_mac, default_compression}

pub client_valid : valid (defaults Client [] [] [] []) ≡ true
unfolding valid good_lists good_tables good_list good_row_table each_key_row agrees consistent below all may_lend names_of kex_names key_names certificate_names cipher_names mac_names compression_names
client_valid = refl

-- with one Ed25519 key, whatever its identity
pub server_valid : (id : ℕ) → valid (defaults Server (0 ∷ []) (id ∷ []) [] []) ≡ true
unfolding valid good_lists good_tables good_list good_row_table each_key_row agrees consistent below all may_lend names_of kex_names key_names certificate_names cipher_names mac_names compression_names
server_valid id = rw (eq-eqb id id refl)

abbrev spell : Kind → List ℕ → List (List ℕ)
spell k ns = map (λ n. get_or (names_of k) n []) ns

-- every kex name, key name and compression name, in the table's order
pub default_kex_lem : spell Kex default_kex ≡ kex_names
unfolding names_of kex_names
default_kex_lem = refl

pub default_key_lem : spell Key default_key ≡ key_names
unfolding names_of key_names
default_key_lem = refl

pub default_compression_lem : spell Compression default_compression ≡ compression_names
unfolding names_of compression_names
default_compression_lem = refl

-- CIPHER_ORDER
pub default_cipher_lem : spell Cipher default_cipher
    ≡ bytes "chacha20-poly1305@openssh.com" ∷ bytes "aes256-gcm@openssh.com" ∷ bytes "aes256-ctr" ∷ bytes "aes192-ctr" ∷ bytes "aes128-ctr" ∷ []
unfolding names_of cipher_names
default_cipher_lem = refl

-- SAFE_HMAC_ORDER
pub default_mac_lem : spell Mac default_mac
    ≡ bytes "hmac-sha2-512-etm@openssh.com" ∷ bytes "hmac-sha2-256-etm@openssh.com" ∷ bytes "hmac-sha2-512" ∷ bytes "hmac-sha2-256" ∷ []
unfolding names_of mac_names
default_mac_lem = refl

-- an Ed25519 key (identity 7) and its certificate: the certificate's name, then the key's
pub one_certificate : key_list_rows (defaults Server (0 ∷ []) (7 ∷ []) (0 ∷ []) (7 ∷ [])) ≡ 20 ∷ 13 ∷ []
unfolding keys_of certificates added of_kind held kept member
one_certificate = refl

-- an RSA key goes with every RSA name, and its certificate does; one of a key that is not held (8) gives none
pub two_certificates : key_list_rows (defaults Server (4 ∷ []) (7 ∷ []) (1 ∷ 4 ∷ 4 ∷ []) (8 ∷ 7 ∷ 7 ∷ [])) ≡ 24 ∷ 25 ∷ 26 ∷ 17 ∷ 18 ∷ 19 ∷ []
unfolding keys_of certificates added of_kind held kept member
two_certificates = refl
