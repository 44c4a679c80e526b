use Rattle.std.proofs.Common.{◌≡◌, ◌+◌, ◌≤◌, drop}
use Rattle.lines.specs.Lf.{count_of}
use Rattle.lines.proofs.count_few.Given as goal

abbrev pub invariant-loop-x : goal.invariant-loop-x
invariant-loop-x l = (l.n ≤ l.x-index) × (l.n + count_of l.b (drop l.x-index l.s) ≡ count_of l.b l.s)
