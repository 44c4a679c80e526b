use native.Mathlib.Omega.{arith}
use mathlib.Core.Path.{◌∙◌}
use Rattle.lines.proofs.OutLaws.{wrote_as, wrote-nil}
use Rattle.once.proofs.Writes.{fits-as, line-is, act-goes, act-waits, act-sent, act-taken, act-kept}
use Rattle.once.proofs.put_act.Goals as goal

pub returns-then-m-eq-MARK_GOES : goal.returns-then-m-eq-MARK_GOES
returns-then-m-eq-MARK_GOES c = let a = c.args in wrote_as (act-goes a.m a.n a.given a.above.now a.line.now c.if-m-eq-MARK_GOES.true) (wrote-nil _ _ (omega (arith, c.requires)))

pub put_line-requires : goal.put_line-requires
put_line-requires c = let a = c.args in fits-as a.o (line-is _ ∙ act-waits a.m a.n a.given a.above.now a.line.now c.if-m-eq-MARK_GOES.false c.if-m-eq-MARK_SENDS.true c.if-n-eq-MARK_SENDS.true) c.requires

pub returns-then-n-eq-MARK_SENDS : goal.returns-then-n-eq-MARK_SENDS
returns-then-n-eq-MARK_SENDS c = let a = c.args in wrote_as (line-is _ ∙ act-waits a.m a.n a.given a.above.now a.line.now c.if-m-eq-MARK_GOES.false c.if-m-eq-MARK_SENDS.true c.if-n-eq-MARK_SENDS.true) c.put_line.ensures

pub returns-then-m-eq-MARK_SENDS : goal.returns-then-m-eq-MARK_SENDS
returns-then-m-eq-MARK_SENDS c = let a = c.args in wrote_as (act-sent a.m a.n a.given a.above.now a.line.now c.if-m-eq-MARK_GOES.false c.if-m-eq-MARK_SENDS.true c.if-n-eq-MARK_SENDS.false) (wrote-nil _ _ (omega (arith, c.requires)))

pub put_taken-requires : goal.put_taken-requires
put_taken-requires c = let a = c.args in fits-as a.o (act-taken a.m a.n a.given a.above.now a.line.now c.if-m-eq-MARK_GOES.false c.if-m-eq-MARK_SENDS.false c.if-given.true) c.requires

pub returns-then-given : goal.returns-then-given
returns-then-given c = let a = c.args in wrote_as (act-taken a.m a.n a.given a.above.now a.line.now c.if-m-eq-MARK_GOES.false c.if-m-eq-MARK_SENDS.false c.if-given.true) c.put_taken.ensures

pub put_line-requires-2 : goal.put_line-requires-2
put_line-requires-2 c = let a = c.args in fits-as a.o (line-is _ ∙ act-kept a.m a.n a.given a.above.now a.line.now c.if-m-eq-MARK_GOES.false c.if-m-eq-MARK_SENDS.false c.if-given.false) c.requires

pub returns : goal.returns
returns c = let a = c.args in wrote_as (line-is _ ∙ act-kept a.m a.n a.given a.above.now a.line.now c.if-m-eq-MARK_GOES.false c.if-m-eq-MARK_SENDS.false c.if-given.false) c.put_line-2.ensures
