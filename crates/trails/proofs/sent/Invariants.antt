use Rattle.std.proofs.Common.{◌≡◌}
use Rattle.trails.specs.Inner.Trails.{sent_by}
use Rattle.trails.proofs.Loops.{goes_to}
use Rattle.trails.proofs.sent.Given as goal

abbrev pub invariant-loop-j : goal.invariant-loop-j
invariant-loop-j l = goes_to l.below l.j l.c ≡ sent_by l.below l.d
