use Rattle.std.proofs.Common.{◌+◌, take}
use Rattle.lines.specs.Inner.Out.{Wrote}
use Rattle.lines.proofs.put_each.Given as goal

abbrev pub invariant-loop-j : goal.invariant-loop-j
invariant-loop-j l = Wrote l.initial.out l.o (take l.j l.t) l.out (l.o + l.j)
