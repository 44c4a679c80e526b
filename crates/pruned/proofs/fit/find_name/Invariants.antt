use Prim.Native.Nat.{◌-◌}
use lib.ListN.{length}
use Rattle.pruned.proofs.FitCode.{NameInv}
use Rattle.pruned.proofs.fit.find_name.Given as goal

abbrev pub invariant-loop-g : goal.invariant-loop-g
invariant-loop-g l = NameInv l.marks l.i l.m l.tag l.d l.s l.g

abbrev pub decreases-loop-g : goal.decreases-loop-g
decreases-loop-g l = length l.s - l.g
