use Rattle.preferred.proofs.OwnLaws.{kex_list_lem}
use Rattle.preferred.proofs.make.kex_rows.Goals as goal

pub returns : goal.returns
returns c = search kex_list_lem
