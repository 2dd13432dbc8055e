-- Which lists protect a side, and what it then never accepts (demand 3, last sentence).
use Rattle.std.specs.Prelude.{◌≡◌, Bool, false, not, ◌&&◌, get_or}
use Rattle.text.specs.Literal.{bytes}
use Rattle.names.specs.Tables.{built_in}
use Rattle.names.specs.declared.CipherId.{CipherId}
use Rattle.names.specs.declared.MacId.{MacId}
use Rattle.choice.specs.Choice.{listed}
use Rattle.judging.specs.Tables.{Tables}
use Rattle.negotiation.specs.declared.Names.{Names}
use Rattle.negotiation.specs.Written.{cipher_list, mac_list}

-- "lists no MAC `none` and no cipher `none` or `clear`"
unfoldable pub protecting : Tables → Bool
protecting t =
    not (listed (bytes "none") (mac_list t)) && not (listed (bytes "none") (cipher_list t)) && not (listed (bytes "clear") (cipher_list t))

-- "a cipher without built-in integrity beside MAC `none`", in one direction; MAC `none` is number 0
pub record Unprotected (cipher : CipherId) (mac : MacId) : Type 0 where
  pub integrity : get_or built_in cipher.0 false ≡ false
  pub none : mac.0 ≡ 0

-- no direction is so
pub record Protected (n : Names) : Type 0 where
  pub client_to_server : Unprotected n.cipher n.client_mac → ⊥
  pub server_to_client : Unprotected n.cipher n.server_mac → ⊥
