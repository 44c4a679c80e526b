use Rattle.std.proofs.Common.{◌≡◌, ◌-◌, length, drop}
use Rattle.lines.specs.Lf.{holds}
use Rattle.lines.proofs.contains.Given as goal

abbrev pub invariant-loop-i : goal.invariant-loop-i
invariant-loop-i l = holds l.p (drop l.i l.s) ≡ holds l.p l.s

abbrev pub decreases-loop-i : goal.decreases-loop-i
decreases-loop-i l = length l.s - l.i
