use Rattle.text.proofs.StdLaws.{std_utf8}
use Rattle.text.proofs.octets.utf8.Goals as goal

pub returns-else-highest-lt128 : goal.returns-else-highest-lt128
returns-else-highest-lt128 c = search std_utf8
