use native.Mathlib.Omega.{arith}
use Rattle.names.proofs.TableLaws.{kind_rows}
use Rattle.preferred.proofs.make.row.Goals as goal

pub overflow_cast-result : goal.overflow_cast-result
overflow_cast-result c = omega (arith, kind_rows c.args.kind)
