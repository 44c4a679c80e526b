use Rattle.place.proofs.Parents.{around-none, around-known, around-unknown}
use Rattle.place.proofs.around.Goals as goal

pub returns-then-c-eq0 : goal.returns-then-c-eq0
returns-then-c-eq0 c = around-none c.args.c _ c.if-c-eq0.true

pub returns-then-k-n : goal.returns-then-k-n
returns-then-k-n c = around-known c.args.c c.wide-k.result c.args.n c.args.up.now c.if-c-eq0.false c.wide-k.ensures c.if-k-n.true

pub returns : goal.returns
returns c = around-unknown c.args.c c.wide-k.result c.args.n c.args.up.now c.if-c-eq0.false c.wide-k.ensures c.if-k-n.false
