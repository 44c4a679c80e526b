use Prim.Native.Nat.{◌-◌}
use mathlib.Core.Path.{◌≡◌}
use Rattle.lexical.specs.Inner.Plain.{plain_len}
use Rattle.lexical.proofs.EndLaws.{ends}
use Rattle.lexical.proofs.plain_end.Given as goal

abbrev pub invariant-loop-j : goal.invariant-loop-j
invariant-loop-j l = ends plain_len l.s l.j ≡ ends plain_len l.s l.i

abbrev pub decreases-loop-j : goal.decreases-loop-j
decreases-loop-j l = l.n - l.j
