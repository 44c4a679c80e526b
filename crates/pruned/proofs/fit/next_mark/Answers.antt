use Rattle.pruned.proofs.FitCode.{mark-known, mark-found}
use Rattle.pruned.proofs.fit.next_mark.Goals as goal

pub returns-then-i-m : goal.returns-then-i-m
returns-then-i-m c = mark-known c.args.i c.args.m c.args.marks.now c.if-i-m.true

pub returns : goal.returns
returns c = mark-found c.args.i c.args.m c.args.marks.now c.find_far.result c.if-i-m.false c.find_far.ensures
