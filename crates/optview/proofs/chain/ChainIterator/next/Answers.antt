use Rattle.std.proofs.Common.{length, arith, ap}
use Rattle.optview.proofs.Counts.{none_left, past_end, one_more}
use Rattle.optview.proofs.chain.ChainIterator.next.Goals.{then-self-eq0-via-then-self-eq0, then-self-eq0-via-else-self-eq0+then-self-here}
use Rattle.optview.proofs.chain.ChainIterator.next.Goals as goal

pub returns-then-self-eq0-clause-steps : goal.returns-then-self-eq0-clause-steps
returns-then-self-eq0-clause-steps c =
    elim c.then-self-eq0.branch [
      | then-self-eq0-via-then-self-eq0 w ↦ (none_left _ _ _ _ w.if-self-eq0.true, none_left _ _ _ _ w.if-self-eq0.true)
      | then-self-eq0-via-else-self-eq0+then-self-here w ↦ (past_end _ _ _ _ w.if-self-here.true, past_end _ _ _ _ w.if-self-here.true)
    ]

pub returns-clause-steps : goal.returns-clause-steps
returns-clause-steps c = one_more _ _ _ _ _ c.if-self-eq0.false c.if-self-here.false c.number_or-self.ensures

pub returns-clause-goes : goal.returns-clause-goes
returns-clause-goes c = record { on = λ _. (tt, tt, omega (arith, ap length (one_more _ _ _ _ _ c.if-self-eq0.false c.if-self-here.false c.number_or-self.ensures))); keeps = tt; rests = λ _. tt }
