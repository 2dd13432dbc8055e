-- The constant column computes to the definition's. Assumes nothing.
use Rattle.names.specs.Tables.{built_in, cipher_names}
use Rattle.names.proofs.CipherId.built_in_integrity.Goals as goal

pub returns : goal.returns
unfolding built_in cipher_names
returns c = c.flag_at.ensures
