use Rattle.std.proofs.Common.{◌≡◌}
use Rattle.lines.specs.Inner.Lf.{line_start}
use Rattle.lines.proofs.start_one.Given as goal

abbrev pub invariant-loop-j : goal.invariant-loop-j
invariant-loop-j l = line_start l.s l.j ≡ line_start l.s l.e
