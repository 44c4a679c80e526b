use Rattle.optview.proofs.Showing.{other-one, other-more}
use Rattle.optview.proofs.escape.other_len.Goals as goal

pub returns-then-n-eq0 : goal.returns-then-n-eq0
returns-then-n-eq0 c = other-one c.args.s.now c.unseen_len-n.result c.unseen_len-n.ensures c.if-n-eq0.true

pub returns : goal.returns
returns c = other-more c.args.s.now c.unseen_len-n.result c.unseen_len-n.ensures c.if-n-eq0.false
