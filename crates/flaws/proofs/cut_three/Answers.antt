use Rattle.lines.proofs.Tests.{and-true, and-false, or-false}
use Rattle.flaws.specs.Flaws.{is_cut}
use Rattle.flaws.proofs.cut_three.Goals as goal

pub returns : goal.returns
unfolding is_cut
returns c = simp (and-true, and-false, or-false)
