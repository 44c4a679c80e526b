use Prim.Native.Nat.{◌-◌}
use lib.ListN.{length}
use Rattle.pruned.proofs.FarCode.{FarInv}
use Rattle.pruned.proofs.far.find_many.Given as goal

abbrev pub invariant-loop-j : goal.invariant-loop-j
invariant-loop-j l = FarInv l.s l.b l.i l.j

abbrev pub decreases-loop-j : goal.decreases-loop-j
decreases-loop-j l = length l.s - l.j
