use Rattle.once.proofs.Moves.{at-gone, at-stands, at-chain, at_next}
use Rattle.once.proofs.move_at.Goals as goal

pub returns-then-m-eq-MARK_GOES : goal.returns-then-m-eq-MARK_GOES
returns-then-m-eq-MARK_GOES c = at-gone c.args.m c.args.next c.if-m-eq-MARK_GOES.true

pub returns-then-next-eq-MARK_SENDS : goal.returns-then-next-eq-MARK_SENDS
returns-then-next-eq-MARK_SENDS c = at-chain c.args.m c.args.next c.if-m-eq-MARK_GOES.false c.if-m-eq-MARK_SENDS.true c.if-next-eq-MARK_SENDS.true

pub returns-then-m-eq-MARK_SENDS : goal.returns-then-m-eq-MARK_SENDS
returns-then-m-eq-MARK_SENDS c = at_next c.args.m c.args.next c.if-m-eq-MARK_GOES.false c.if-m-eq-MARK_SENDS.true c.if-next-eq-MARK_SENDS.false

pub returns : goal.returns
returns c = at-stands c.args.m c.args.next c.if-m-eq-MARK_GOES.false c.if-m-eq-MARK_SENDS.false
