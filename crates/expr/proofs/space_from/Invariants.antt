use mathlib.Core.Path.{◌≡◌}
use lib.ListN.{drop}
use Rattle.expr.specs.Pure.{space_start}
use Rattle.expr.proofs.space_from.Given as goal

abbrev pub invariant-loop-i : goal.invariant-loop-i
invariant-loop-i l = space_start l.s ≡ space_start (drop l.i l.s)
