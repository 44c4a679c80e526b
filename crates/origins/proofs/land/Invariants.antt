use Rattle.origins.proofs.TableLaws.{LandInv}
use Rattle.origins.proofs.land.Given as goal

abbrev pub invariant-loop-k : goal.invariant-loop-k
invariant-loop-k l = LandInv l.initial.moves l.moves l.k l.s
