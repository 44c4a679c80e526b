use Rattle.place.proofs.Tables.{open_none}
use Rattle.place.proofs.ends_open.Goals as goal

pub returns-then-n-eq0 : goal.returns-then-n-eq0
returns-then-n-eq0 c = open_none c.args.t.now c.if-n-eq0.true
