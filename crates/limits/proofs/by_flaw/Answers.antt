use Rattle.limits.proofs.AnswerLaws.{flaw-as}
use Rattle.limits.proofs.by_flaw.Goals as goal

pub returns-in-Other : goal.returns-in-Other
returns-in-Other c = flaw-as c.args.f c.args.i c.in-Other.is

pub returns-in-Cut : goal.returns-in-Cut
returns-in-Cut c = flaw-as c.args.f c.args.i c.in-Cut.is

pub returns-in-Overlong : goal.returns-in-Overlong
returns-in-Overlong c = flaw-as c.args.f c.args.i c.in-Overlong.is

pub returns-in-Outside : goal.returns-in-Outside
returns-in-Outside c = flaw-as c.args.f c.args.i c.in-Outside.is
