use Rattle.judging.proofs.ValidLaws.{valid_parts}
use Rattle.preferred.proofs.OwnLaws.{certs_lent, certs_good, keys_lent, keys_good, client_list, server_list}
use Rattle.preferred.proofs.make.key_rows.Goals as goal

pub host_keys-requires : goal.host_keys-requires
host_keys-requires c = record { certs = (valid_parts _ c.requires).certificate; keys = (valid_parts _ c.requires).key }

pub host_keys-requires-in-Server : goal.host_keys-requires-in-Server
host_keys-requires-in-Server c = record {
  certs = certs_good _ c.requires _ c.certified-certs.ensures _ c.deref.ensures.0;
  keys = keys_good _ c.requires _ c.held-keys.ensures _ c.deref-in-Server.ensures.0;
}

pub returns-in-Client : goal.returns-in-Client
returns-in-Client c = client_list _ c.requires _ c.in-Client.is c.host_keys.ensures

pub returns-in-Server : goal.returns-in-Server
returns-in-Server c =
    server_list _ c.requires _ c.in-Server.is _ _
    (certs_lent _ c.requires _ c.certified-certs.ensures _ c.deref.ensures.0)
    (keys_lent _ c.requires _ c.held-keys.ensures _ c.deref-in-Server.ensures.0)
    c.host_keys-in-Server.ensures
