use native.Mathlib.Omega.{arith}
use Rattle.pruned.proofs.FitCode.{piece-past, piece-front, piece-at, piece-not}
use Rattle.pruned.proofs.fit.next_near.Goals as goal

pub returns-then-body-g : goal.returns-then-body-g
returns-then-body-g c = piece-past c.args.body.now c.args.i _ c.find_name-g.result c.find_name-g.ensures c.if-body-g.true

pub returns-then-g-i : goal.returns-then-g-i
returns-then-g-i c = piece-front c.args.body.now c.args.i _ c.find_name-g.result c.find_name-g.ensures (omega arith) c.if-g-i.true

pub returns-then-body-g-eq44 : goal.returns-then-body-g-eq44
returns-then-body-g-eq44 c = piece-at c.args.body.now c.args.i _ c.find_name-g.result c.find_name-g.ensures c.if-body-g-eq44.true

pub returns : goal.returns
returns c = piece-not c.args.body.now c.args.i _ c.find_name-g.result c.find_name-g.ensures c.if-body-g.false c.if-body-g-eq44.false
