-- How two ends can end, in the words of demand 3.
use Rattle.std.specs.Prelude.{◌≡◌, Bool, true, false, List, ℕ, ◌<◌}
use Rattle.std.proofs.Math.Option.{some}
use Rattle.answer.specs.Refusal.{Refusal}
use Rattle.answer.specs.Answer.{Out, refused, done, refuse_at, pick}
use Rattle.names.specs.Lookup.{number_of}
use Rattle.names.specs.declared.Kind.TheVariants.{Kex, Key, Certificate, Cipher, Mac, Compression}
use Rattle.choice.specs.Choice.{First, NoneShared}
use Rattle.judging.specs.Tables.{Tables}
use Rattle.negotiation.specs.declared.Names.{Names}
use Rattle.negotiation.specs.Written.{key_list, cipher_list, mac_list, compression_list}
use Rattle.negotiation.specs.Read.{needs_mac, no_mac, Choices}
use Rattle.agreement.specs.Both.{kex_offer, both_strict}

-- the MAC of a direction: a shared one, or `none` beside a cipher that needs none
pub data MacOf (client server : List (List ℕ)) (cipher mac : List ℕ) : Type 0 where
  shared : First client server mac → MacOf client server cipher mac
  not_needed : NoneShared client server → needs_mac cipher ≡ false → mac ≡ no_mac → MacOf client server cipher mac

-- the record of these names: each number is its name's place in the table of its kind
pub record MadeOf (c : Choices) (is_strict : Bool) (n : Names) : Type 0 where
  pub kex_number : number_of Kex c.kex ≡ some n.kex.0
  pub key_number : number_of (pick n.flags.host_key_is_certificate Certificate Key) c.key ≡ some n.key.0
  pub cipher_number : number_of Cipher c.cipher ≡ some n.cipher.0
  pub client_mac_number : number_of Mac c.client_mac ≡ some n.client_mac.0
  pub server_mac_number : number_of Mac c.server_mac ≡ some n.server_mac.0
  pub client_compression_number : number_of Compression c.client_compression ≡ some n.client_compression.0
  pub server_compression_number : number_of Compression c.server_compression ≡ some n.server_compression.0
  pub ignore_guessed : n.flags.ignore_guessed ≡ false
  pub strict_kex : n.flags.strict_kex ≡ is_strict

-- what is accepted: the names that the rule gives, and the record of them
pub record Accepted (client server : Tables) (strict_agreed : Bool) (n : Names) : Type 0 where
  pub names : Choices
  pub kex_first : First (kex_offer client) (kex_offer server) names.kex
  pub key_first : First (key_list client) (key_list server) names.key
  pub cipher_first : First (cipher_list client) (cipher_list server) names.cipher
  pub client_mac_of : MacOf (mac_list client) (mac_list server) names.cipher names.client_mac
  pub server_mac_of : MacOf (mac_list client) (mac_list server) names.cipher names.server_mac
  pub client_compression_first : First (compression_list client) (compression_list server) names.client_compression
  pub server_compression_first : First (compression_list client) (compression_list server) names.server_compression
  pub made : MadeOf names (both_strict client server strict_agreed) n

-- "a needed category has no shared name", and its number; a MAC is needed if the chosen cipher needs one
pub data Lacks (client server : Tables) : ℕ → Type 0 where
  kex : NoneShared (kex_offer client) (kex_offer server) → Lacks client server 10
  key : NoneShared (key_list client) (key_list server) → Lacks client server 11
  cipher : NoneShared (cipher_list client) (cipher_list server) → Lacks client server 12
  mac : (chosen : List ℕ) → First (cipher_list client) (cipher_list server) chosen → needs_mac chosen ≡ true
      → NoneShared (mac_list client) (mac_list server) → Lacks client server 13
  compression : NoneShared (compression_list client) (compression_list server) → Lacks client server 14

-- a refusal's number is that of the first such category
pub record FirstLacking (client server : Tables) (n : ℕ) : Type 0 where
  pub lacks : Lacks client server n
  pub earlier : (m : ℕ) → m < n → Lacks client server m → ⊥

-- "both accept with equal names and flags [..]; or both refuse with the same number", each where the list stands in what it
-- read (document 02, No. 6)
pub data Ended (client server : Tables) (strict_agreed : Bool) (client_reads server_reads : Out Names) : Type 0 where
  both_accept : (n : Names) → client_reads ≡ done n → server_reads ≡ done n → Accepted client server strict_agreed n
      → Ended client server strict_agreed client_reads server_reads
  both_refuse : (n i j : ℕ) → client_reads ≡ refuse_at n i → server_reads ≡ refuse_at n j → FirstLacking client server n
      → Ended client server strict_agreed client_reads server_reads

abbrev pub Refuses : Out Names → Type 0
Refuses o = (r : Refusal) × (o ≡ refused r)
