use lib.Dec.{eqb}
use Rattle.lines.proofs.Tests.{or-false}
use Rattle.expr.proofs.is_number_byte.Goals as goal

pub returns : goal.returns
returns c = rw (or-false (eqb c.args.b 95))
