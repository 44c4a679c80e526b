use Prim.Native.Nat.{◌-◌}
use lib.ListN.{length}
use Rattle.words.proofs.RunLaws.{NextInv}
use Rattle.words.proofs.Places.{reg_run}
use Rattle.words.proofs.next_long.Given as goal

abbrev pub invariant-loop-j : goal.invariant-loop-j
invariant-loop-j l = NextInv (reg_run l.reg.0) l.s l.i l.j

abbrev pub decreases-loop-j : goal.decreases-loop-j
decreases-loop-j l = length l.s - l.j
