use Prim.Native.Nat.{◌-◌}
use mathlib.Core.Path.{◌≡◌}
use lib.ListN.{length}
use Rattle.po.specs.Found.{literals}
use Rattle.po.specs.Answers.{first_flaw}
use Rattle.po.specs.Inner.Walk.{spots_from, Ready}
use Rattle.po.proofs.first_flaw.Given as goal

abbrev pub invariant-loop-c : goal.invariant-loop-c
invariant-loop-c l = (Ready l.t l.c) × (first_flaw (spots_from l.t l.c) ≡ first_flaw (literals l.t))

abbrev pub decreases-loop-c : goal.decreases-loop-c
decreases-loop-c l = length l.t - l.c.at
