use Rattle.lines.proofs.Tests.{so}
use Rattle.optview.proofs.Showing.{len-one, len-two, len-three, len-none}
use Rattle.optview.proofs.escape.unseen_len.Goals as goal

pub returns-then-unseen_one : goal.returns-then-unseen_one
returns-then-unseen_one c = len-one c.args.s.now _ c.byte_at-a.ensures (so c.unseen_one.ensures c.if-unseen_one.true)

pub returns-then-unseen_narrow : goal.returns-then-unseen_narrow
returns-then-unseen_narrow c = len-two c.args.s.now _ c.byte_at-a.ensures (so c.unseen_one.ensures c.if-unseen_one.false) _ c.byte_at-b.ensures (so c.unseen_narrow.ensures c.if-unseen_narrow.true)

pub returns-then-unseen_wide : goal.returns-then-unseen_wide
returns-then-unseen_wide c = len-three c.args.s.now _ c.byte_at-a.ensures (so c.unseen_one.ensures c.if-unseen_one.false) _ c.byte_at-b.ensures (so c.unseen_narrow.ensures c.if-unseen_narrow.false) _ c.byte_at-c.ensures (so c.unseen_wide.ensures c.if-unseen_wide.true)

pub returns : goal.returns
returns c = len-none c.args.s.now _ c.byte_at-a.ensures (so c.unseen_one.ensures c.if-unseen_one.false) _ c.byte_at-b.ensures (so c.unseen_narrow.ensures c.if-unseen_narrow.false) _ c.byte_at-c.ensures (so c.unseen_wide.ensures c.if-unseen_wide.false)
