use Rattle.negotiation.proofs.RecordLaws.{place_certificate, place_key}
use Rattle.negotiation.proofs.rows.key_number.Goals as goal

pub returns-then-row-ge-FIRST_CERTIFICATE : goal.returns-then-row-ge-FIRST_CERTIFICATE
returns-then-row-ge-FIRST_CERTIFICATE c = search (place_certificate, place_key)

pub returns : goal.returns
returns c = search (place_certificate, place_key)
