use Rattle.std.proofs.Common.{◌≤◌, length}
use Rattle.input.proofs.behind.Given as goal

abbrev pub invariant-loop : goal.invariant-loop
invariant-loop l = l.from ≤ length l.s → l.at ≤ length l.s
