use Rattle.trails.proofs.Loops.{CarryInv}
use Rattle.trails.proofs.carry.Given as goal

abbrev pub invariant-loop-i : goal.invariant-loop-i
invariant-loop-i l = CarryInv l.initial.raw l.moves l.raw l.i l.k
