use Rattle.std.proofs.Common.{◌≡◌, drop}
use Rattle.lines.specs.Lf.{prefixed}
use Rattle.lines.proofs.starts_with.Given as goal

abbrev pub invariant-loop-i : goal.invariant-loop-i
invariant-loop-i l = prefixed (drop l.i l.p) (drop l.i l.s) ≡ prefixed l.p l.s
