use Prim.Native.Nat.{◌-◌}
use lib.ListN.{length}
use Rattle.place.proofs.Walks.{WalkInv}
use Rattle.place.proofs.walk_tokens.Given as goal

abbrev pub invariant-loop-i : goal.invariant-loop-i
invariant-loop-i l = WalkInv l.line l.block l.initial.up l.n l.up l.i l.tail l.c l.m

abbrev pub decreases-loop-i : goal.decreases-loop-i
decreases-loop-i l = length l.line - l.i
