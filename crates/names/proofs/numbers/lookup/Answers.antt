use mathlib.Core.Path.{sym, ◌∙◌}
use Rattle.names.proofs.LookupLaws.{number_small, unnamed}
use Rattle.names.proofs.numbers.lookup.Goals as goal

-- a kind has fewer rows than a byte can count
pub overflow_cast-result : goal.overflow_cast-result
overflow_cast-result c = record { fits = number_small _ _ _ _ c.first_row.ensures c.in_ok-row.ensures }

pub returns-then-is_empty : goal.returns-then-is_empty
returns-then-is_empty c = unnamed _ _ (sym c.is_empty.ensures ∙ c.if-is_empty.true)
