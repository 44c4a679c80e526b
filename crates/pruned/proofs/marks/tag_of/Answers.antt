use Rattle.pruned.proofs.FitCode.{tag-none, tag-by}
use Rattle.pruned.proofs.marks.tag_of.Goals as goal

pub returns-then-d-eq0 : goal.returns-then-d-eq0
returns-then-d-eq0 c = tag-none c.args.d.now c.if-d-eq0.true

pub returns : goal.returns
returns c = tag-by c.args.d.now c.if-d-eq0.false c.before_last-b.result c.before_last-b.ensures
