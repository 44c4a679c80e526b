use lib.ListN.{length}
use Prim.Native.Nat.{◌-◌}
use Rattle.pruned.proofs.FitCode.{FitInv}
use Rattle.pruned.proofs.fit.names_fit.Given as goal

abbrev pub invariant-loop-d : goal.invariant-loop-d
invariant-loop-d l = FitInv l.body l.marks l.p l.j0 l.i l.j l.c l.m

abbrev pub decreases-loop-d : goal.decreases-loop-d
decreases-loop-d l = length l.body - l.i
