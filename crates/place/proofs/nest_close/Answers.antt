use Rattle.place.proofs.Nests.{close-all, close-loop, close-some}
use Rattle.place.proofs.nest_close.Goals as goal

pub returns-then-d-k : goal.returns-then-d-k
returns-then-d-k c = close-all c.args.k c.args.d c.args.o c.if-d-k.true

pub returns-then-d-k-2 : goal.returns-then-d-k-2
returns-then-d-k-2 c = close-loop c.args.k c.args.d c.args.o c.if-d-k-2.true

pub returns : goal.returns
returns c = close-some c.args.k c.args.d c.args.o c.if-d-k-2.false
