-- Document 01's two examples, by computation: curve25519-sha256, ssh-ed25519, hmac-sha2-256, none and one cipher, of a
-- client and of a server with one Ed25519 key, whatever its identity. Every byte is spelled out. Assumes nothing.
use mathlib.Core.Path.{◌≡◌, refl}
use mathlib.Core.Bool.{true}
use mathlib.Core.List.{List, [], ◌∷◌, ◌++◌, flatten}
use Prim.Native.Nat.{ℕ}
use borrow.Author.Tests.{eq-eqb}
use lib.ListN.{length}
use Rattle.put.specs.Written.{word}
use Rattle.commas.specs.Cut.{join}
use Rattle.names.specs.Tables.{bytes, names_of, all_names, kex_names, key_names, certificate_names, cipher_names, mac_names, compression_names}
use Rattle.choice.specs.declared.Side.TheVariants.{Client, Server}
use Rattle.choice.specs.Rows.{row_spelled}
use Rattle.judging.specs.Tables.{Tables, tables, all, below, good_list, good_row_table, each_key_row, agrees, consistent, good_lists, good_tables, may_lend, valid}
use Rattle.choice.specs.Choice.{kept}
use Rattle.filters.specs.Picked.{member, without, held, certificates}
use Rattle.preferred.specs.Own.{keys_of, written_kex}
use Rattle.negotiation.specs.KexInit.{text_field, encoded}
use Rattle.negotiation.specs.Written.{kex_init}
use Rattle.negotiation.proofs.KexInitLaws.{kex_length}

abbrev client : ℕ → Tables
client cipher = tables Client (1 ∷ []) (0 ∷ []) [] (cipher ∷ []) (4 ∷ []) (0 ∷ []) [] [] [] []

abbrev server : ℕ → ℕ → Tables
server id cipher = tables Server (1 ∷ []) (0 ∷ []) [] (cipher ∷ []) (4 ∷ []) (0 ∷ []) (0 ∷ []) (id ∷ []) [] []

-- the payload that n bytes of a cipher's name give, every byte of it
abbrev payload : List ℕ → ℕ → List ℕ → List ℕ
payload cookie n cipher =
    20
    ∷ (cookie
    ++ (0 ∷ 0 ∷ 0 ∷ 17 ∷ (bytes "curve25519-sha256"
    ++ (0 ∷ 0 ∷ 0 ∷ 11 ∷ (bytes "ssh-ed25519"
    ++ (0 ∷ 0 ∷ 0 ∷ n ∷ (cipher
    ++ (0 ∷ 0 ∷ 0 ∷ n ∷ (cipher
    ++ (0 ∷ 0 ∷ 0 ∷ 13 ∷ (bytes "hmac-sha2-256"
    ++ (0 ∷ 0 ∷ 0 ∷ 13 ∷ (bytes "hmac-sha2-256"
    ++ (0 ∷ 0 ∷ 0 ∷ 4 ∷ (bytes "none"
    ++ (0 ∷ 0 ∷ 0 ∷ 4 ∷ (bytes "none"
    ++ (0 ∷ 0 ∷ 0 ∷ 0 ∷ 0 ∷ 0 ∷ 0 ∷ 0 ∷ 0 ∷ 0 ∷ 0 ∷ 0 ∷ 0 ∷ []))))))))))))))))))

-- tables that are valid, what they write, and how long that is
pub record Writes (t : Tables) (n : ℕ) (cipher : List ℕ) (long : ℕ) : Type 0 where
  pub right : valid t ≡ true
  pub exactly : (cookie : List ℕ) → kex_init t cookie ≡ payload cookie n cipher
  pub size : (cookie : List ℕ) → length cookie ≡ 16 → length (kex_init t cookie) ≡ long

pub record Examples : Type 0 where
  pub client_chacha20 : Writes (client 10) 29 (bytes "chacha20-poly1305@openssh.com") 182
  pub server_chacha20 : (id : ℕ) → Writes (server id 10) 29 (bytes "chacha20-poly1305@openssh.com") 182
  pub client_aes128_ctr : Writes (client 2) 10 (bytes "aes128-ctr") 144
  pub server_aes128_ctr : (id : ℕ) → Writes (server id 2) 10 (bytes "aes128-ctr") 144

pub examples : Examples
unfolding valid good_lists good_tables good_list good_row_table each_key_row agrees consistent below all may_lend names_of kex_names key_names certificate_names cipher_names mac_names compression_names all_names kex_init written_kex without kept member keys_of certificates held row_spelled encoded flatten text_field join word
examples =
    record {
      client_chacha20 = record { right = refl; exactly = λ cookie. refl; size = kex_length (client 10) };
      server_chacha20 = λ id. record { right = rw (eq-eqb id id refl); exactly = λ cookie. refl; size = kex_length (server id 10) };
      client_aes128_ctr = record { right = refl; exactly = λ cookie. refl; size = kex_length (client 2) };
      server_aes128_ctr = λ id. record { right = rw (eq-eqb id id refl); exactly = λ cookie. refl; size = kex_length (server id 2) };
    }
