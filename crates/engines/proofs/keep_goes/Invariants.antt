use Rattle.engines.proofs.EngineLaws.{GoesInv}
use Rattle.engines.proofs.keep_goes.Given as goal

abbrev pub invariant-loop-k : goal.invariant-loop-k
invariant-loop-k l = GoesInv l.initial.marks l.marks l.n l.k
