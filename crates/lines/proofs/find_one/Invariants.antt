use Rattle.std.proofs.Common.{◌≡◌, ◌+◌, drop}
use Rattle.lines.specs.Lf.{up_to}
use Rattle.lines.proofs.find_one.Given as goal

abbrev pub invariant-loop-j : goal.invariant-loop-j
invariant-loop-j l = l.j + up_to l.b (drop l.j l.s) ≡ l.i + up_to l.b (drop l.i l.s)
