use Rattle.picking.proofs.PickLaws.{rule_laws}
use Rattle.picking.proofs.rules.mac_rule.Goals as goal

pub returns-then-unwrap_or : goal.returns-then-unwrap_or
returns-then-unwrap_or c = search rule_laws

pub returns-else-unwrap_or : goal.returns-else-unwrap_or
returns-else-unwrap_or c = search rule_laws
