-- The constant column computes to the definition's. Assumes nothing.
use Rattle.names.specs.Tables.{need_mac, cipher_names}
use Rattle.names.proofs.CipherId.needs_mac.Goals as goal

pub returns : goal.returns
unfolding need_mac cipher_names
returns c = c.flag_at.ensures
