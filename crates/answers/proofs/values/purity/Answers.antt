use native.Mathlib.Omega.{arith}
use Rattle.expr.proofs.QuoteLaws.{cut-length}
use Rattle.answers.proofs.values.purity.Goals as goal

pub purity-p-requires : goal.purity-p-requires
purity-p-requires c = omega (arith, cut-length c.args.strict c.args.a.now)
