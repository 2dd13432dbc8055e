-- Demand 3, whole.
use Rattle.std.specs.Prelude.{◌≡◌, Bool, true, ◌||◌, List, ◌↔◌, ℕ, length}
use Rattle.answer.specs.Answer.{done}
use Rattle.choice.specs.declared.Side.TheVariants.{Client, Server}
use Rattle.judging.specs.Tables.{Tables, valid}
use Rattle.negotiation.specs.declared.Names.{Names}
use Rattle.negotiation.specs.Written.{write_kex}
use Rattle.negotiation.specs.Read.{read_kex}
use Rattle.agreement.specs.Protected.{protecting, Protected}
use Rattle.agreement.specs.Ended.{Lacks, Ended, Refuses}

-- "A client and a server of this code with any valid tables and cookies [..], of which at least one lists no MAC `none`
-- and no cipher `none` or `clear`"
pub record Ends (client server : Tables) (client_cookie server_cookie : List ℕ) : Type 0 where
  pub is_client : client.side ≡ Client
  pub is_server : server.side ≡ Server
  pub client_valid : valid client ≡ true
  pub server_valid : valid server ≡ true
  pub client_cookie16 : length client_cookie ≡ 16
  pub server_cookie16 : length server_cookie ≡ 16
  pub one_protects : (protecting client || protecting server) ≡ true

-- "[they] read each other's KEXINIT: both accept [..]; or both refuse [..], exactly if a needed category has no shared name"
pub record Agreed (client server : Tables) (client_cookie server_cookie : List ℕ) (strict_agreed : Bool) : Type 0 where
  pub client_sends : List ℕ
  pub server_sends : List ℕ
  pub client_writes : write_kex client client_cookie ≡ done client_sends
  pub server_writes : write_kex server server_cookie ≡ done server_sends
  pub ended : Ended client server strict_agreed (read_kex client strict_agreed server_sends) (read_kex server strict_agreed client_sends)
  pub client_exactly : Refuses (read_kex client strict_agreed server_sends) ↔ ((n : ℕ) × Lacks client server n)
  pub server_exactly : Refuses (read_kex server strict_agreed client_sends) ↔ ((n : ℕ) × Lacks client server n)

-- with "the same strict-rekey flag"; "And whatever bytes a peer sends, a side with such lists never accepts a cipher
-- without built-in integrity beside MAC `none`."
pub record Demand3 : Type 0 where
  pub agreed : (client server : Tables) (client_cookie server_cookie : List ℕ) → Ends client server client_cookie server_cookie
      → (strict_agreed : Bool) → Agreed client server client_cookie server_cookie strict_agreed
  pub never_unprotected : (t : Tables) → protecting t ≡ true → (strict_agreed : Bool) (bytes : List ℕ) (n : Names) → read_kex t strict_agreed bytes ≡ done n
      → Protected n
