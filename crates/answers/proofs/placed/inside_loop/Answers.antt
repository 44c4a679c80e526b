use native.Mathlib.Omega.{arith}
use Rattle.answers.proofs.Bounds.{lines-count}
use Rattle.answers.proofs.placed.inside_loop.Goals as goal

pub inside_loop-requires : goal.inside_loop-requires
inside_loop-requires c = omega (arith, lines-count c.args.a.now)
