use Rattle.preferred.proofs.OwnLaws.{rows_after}
use Rattle.preferred.proofs.make.host_keys.Goals as goal

pub returns : goal.returns
returns c = search rows_after
