use Rattle.phis.proofs.may_change.Goals as goal

pub returns-then-dead : goal.returns-then-dead
returns-then-dead c = rw c.if-dead.true c.has_phi.ensures

pub returns : goal.returns
returns c = rw c.if-dead.false
