use Rattle.calls.proofs.StepLaws.{and_no, and_yes}
use Rattle.calls.proofs.breaks_if.Goals as goal

pub returns-then-not-taken : goal.returns-then-not-taken
returns-then-not-taken c = and_no {a = c.args.taken} _ c.if-not-taken.true

pub returns : goal.returns
returns c = and_yes {a = c.args.taken} c.if-not-taken.false c.breaks.ensures
