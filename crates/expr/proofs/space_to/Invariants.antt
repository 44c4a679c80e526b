use mathlib.Core.Path.{◌≡◌}
use lib.ListN.{take}
use Rattle.expr.specs.Pure.{space_end}
use Rattle.expr.proofs.space_to.Given as goal

abbrev pub invariant-loop-n : goal.invariant-loop-n
invariant-loop-n l = space_end l.s ≡ space_end (take l.n l.s)
