-- What a client and a server come to: one block over what they share (document 01, "Choice").
use Rattle.std.specs.Prelude.{Bool, false, ◌&&◌, ◌||◌, List, [], ◌∷◌, ℕ}
use Rattle.std.proofs.Math.Option.{Option}
use Rattle.answer.specs.Answer.{Out, done, pick, ◌>>=◌}
use Rattle.text.specs.Literal.{bytes}
use Rattle.choice.specs.Choice.{listed, first_shared}
use Rattle.judging.specs.Tables.{Tables}
use Rattle.negotiation.specs.declared.Names.{Names}
use Rattle.negotiation.specs.Written.{kex_list, key_list, cipher_list, mac_list, compression_list}
use Rattle.negotiation.specs.Read.{settle, settle_mac, settled}

-- the name of each category, if there is one
pub record Shared : Type 0 where
  pub kex : Option (List ℕ)
  pub key : Option (List ℕ)
  pub cipher : Option (List ℕ)
  pub mac : Option (List ℕ)
  pub compression : Option (List ℕ)

-- what an end makes of them, offsets apart: the ends read different payloads; no guess follows, so none is ignored
unfoldable pub settling : Shared → Bool → Out Names
settling s is_strict = do
  kex ← settle 10 0 s.kex
  key ← settle 11 0 s.key
  cipher ← settle 12 0 s.cipher
  client_mac ← settle_mac cipher 0 s.mac
  server_mac ← settle_mac cipher 0 s.mac
  client_compression ← settle 14 0 s.compression
  server_compression ← settle 14 0 s.compression
  done
      (settled
      (record {
        kex = kex;
        key = key;
        cipher = cipher;
        client_mac = client_mac;
        server_mac = server_mac;
        client_compression = client_compression;
        server_compression = server_compression;
      })
      false is_strict)

abbrev pub client_strict : List ℕ
client_strict = bytes "kex-strict-c-v00@openssh.com"

abbrev pub server_strict : List ℕ
server_strict = bytes "kex-strict-s-v00@openssh.com"

abbrev pub extension_names : List (List ℕ)
extension_names = bytes "ext-info-c" ∷ client_strict ∷ bytes "ext-info-s" ∷ server_strict ∷ []

-- "lists as written, extension names apart"
unfoldable pub apart : List (List ℕ) → List (List ℕ)
apart [] = []
apart (name ∷ names) = pick (listed name extension_names) (apart names) (name ∷ apart names)

abbrev pub kex_offer : Tables → List (List ℕ)
kex_offer t = apart (kex_list t)

-- "each shared name the client's first that the server lists"
abbrev pub shared : Tables → Tables → Shared
shared client server =
    record {
      kex = first_shared (kex_offer client) (kex_offer server);
      key = first_shared (key_list client) (key_list server);
      cipher = first_shared (cipher_list client) (cipher_list server);
      mac = first_shared (mac_list client) (mac_list server);
      compression = first_shared (compression_list client) (compression_list server);
    }

-- each lists its own strict name; or the strict-rekey flag, which both have
abbrev pub both_strict : Tables → Tables → Bool → Bool
both_strict client server strict_agreed = (listed client_strict (kex_list client) && listed server_strict (kex_list server)) || strict_agreed

unfoldable pub both : Tables → Tables → Bool → Out Names
both client server strict_agreed = settling (shared client server) (both_strict client server strict_agreed)
