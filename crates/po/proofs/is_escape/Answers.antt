use Rattle.lines.proofs.Tests.{or-false}
use lib.Dec.{eqb}
use Rattle.po.proofs.is_escape.Goals as goal

pub returns : goal.returns
returns c = simp (or-false (eqb c.args.y 92))
