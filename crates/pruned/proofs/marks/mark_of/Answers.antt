use Rattle.pruned.proofs.FitCode.{mark-yes, mark-no}
use Rattle.pruned.proofs.marks.mark_of.Goals as goal

pub returns-then-stays : goal.returns-then-stays
returns-then-stays c = mark-yes c.args.stays _ c.if-stays.true

pub returns : goal.returns
returns c = mark-no c.args.stays _ c.tag_of.result c.if-stays.false c.tag_of.ensures
