use Rattle.limits.proofs.AnswerLaws.{mode-bad, mode-good}
use Rattle.limits.proofs.refused_task.Goals as goal

pub returns-then-m-ge-MODES : goal.returns-then-m-ge-MODES
returns-then-m-ge-MODES c = mode-bad _ _ c.if-m-ge-MODES.true

pub returns : goal.returns
returns c = mode-good _ c.if-m-ge-MODES.false c.refused.ensures
