-- What every accepted record holds, whatever bytes were read: each number lies in its table and stands in the own list, but
-- for the MAC `none` where the cipher needs none.
use Rattle.std.specs.Prelude.{◌≡◌, true, false, List, ◌++◌, ◌⊎◌, ℕ, ◌+◌, ◌<◌, length, get_or}
use Rattle.answer.specs.Answer.{pick}
use Rattle.names.specs.Tables.{names_of, first_row, need_mac}
use Rattle.names.specs.declared.Kind.{Kind}
use Rattle.names.specs.declared.Kind.TheVariants.{Kex, Key, Certificate, Cipher, Mac, Compression}
use Rattle.choice.specs.declared.Side.TheVariants.{Client, Server}
use Rattle.judging.specs.Tables.{Tables}
use Rattle.filters.specs.Picked.{member}
use Rattle.preferred.specs.Own.{extensions, key_list_rows}
use Rattle.negotiation.specs.declared.Names.{Names}

-- a number of a kind, and of a list
pub record Among (k : Kind) (own : List ℕ) (number : ℕ) : Type 0 where
  pub inside : number < length (names_of k)
  pub stands : member number own ≡ true

-- "no shared name gives `none` if the cipher needs no MAC"
abbrev pub Fallback : ℕ → ℕ → Type 0
Fallback cipher mac = (mac ≡ 0) × (get_or need_mac cipher false ≡ false)

-- A key's number is its place among the key names and among the certificate names alike: with the certificate flag it is a
-- row of the key list that this side writes.
pub record Known (t : Tables) (n : Names) : Type 0 where
  pub kex : Among Kex t.kex n.kex.0
  pub no_extension : member n.kex.0 (extensions Client ++ extensions Server) ≡ false
  pub key_inside : n.key.0 < length (names_of Key)
  pub key_stands : member (first_row (pick n.flags.host_key_is_certificate Certificate Key) + n.key.0) (key_list_rows t) ≡ true
  pub cipher : Among Cipher t.cipher n.cipher.0
  pub client_mac : Among Mac t.mac n.client_mac.0 ⊎ Fallback n.cipher.0 n.client_mac.0
  pub server_mac : Among Mac t.mac n.server_mac.0 ⊎ Fallback n.cipher.0 n.server_mac.0
  pub client_compression : Among Compression t.compression n.client_compression.0
  pub server_compression : Among Compression t.compression n.server_compression.0
