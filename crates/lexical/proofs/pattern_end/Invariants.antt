use Prim.Native.Nat.{◌-◌}
use mathlib.Core.Path.{◌≡◌}
use mathlib.Core.Bool.{false}
use lib.ListN.{length}
use Rattle.lexical.proofs.EndLaws.{ends, patterns}
use Rattle.lexical.proofs.pattern_end.Given as goal

abbrev pub invariant-loop-j : goal.invariant-loop-j
invariant-loop-j l = ends (patterns l.inside) l.s l.j ≡ ends (patterns false) l.s l.i

abbrev pub decreases-loop-j : goal.decreases-loop-j
decreases-loop-j l = length l.s - l.j
