use Prim.Native.Nat.{◌-◌}
use lib.ListN.{length}
use Rattle.decls.proofs.Writes.{PruneInv}
use Rattle.decls.proofs.SeenLaws.{TableInv}
use Rattle.decls.proofs.Moves.{MoveInv}
use Rattle.decls.proofs.prune_with.Given as goal

abbrev pub invariant-loop-i : goal.invariant-loop-i
invariant-loop-i l = (PruneInv l.text l.initial.out l.out l.a l.c l.i l.o) × ((TableInv l.own l.text l.initial.seen l.seen l.a l.b l.m l.i) × (MoveInv l.text l.initial.moves l.moves l.a l.c l.i l.row))

abbrev pub decreases-loop-i : goal.decreases-loop-i
decreases-loop-i l = length l.text - l.i
