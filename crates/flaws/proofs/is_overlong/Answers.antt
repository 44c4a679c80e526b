use Rattle.lines.proofs.Tests.{and-true, or-false}
use Rattle.flaws.proofs.is_overlong.Goals as goal

pub returns : goal.returns
returns c = simp (and-true, or-false)
