use Rattle.choice.proofs.PlaceLaws.{row_lent}
use Rattle.choice.proofs.row_at.Goals as goal

pub returns : goal.returns
returns c = row_lent _ _ _ c.get.ensures.lookup _ c.copied.ensures
