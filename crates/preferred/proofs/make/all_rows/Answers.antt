use Rattle.preferred.proofs.OwnLaws.{rows_list}
use Rattle.preferred.proofs.make.all_rows.Goals as goal

pub returns : goal.returns
returns c = search rows_list
