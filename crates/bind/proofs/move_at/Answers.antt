use Rattle.bind.proofs.Moves.{at-gone, at-stands}
use Rattle.bind.proofs.move_at.Goals as goal

pub returns-then-m-eq-AWAY : goal.returns-then-m-eq-AWAY
returns-then-m-eq-AWAY c = at-gone c.args.m c.if-m-eq-AWAY.true

pub returns : goal.returns
returns c = at-stands c.args.m c.if-m-eq-AWAY.false
