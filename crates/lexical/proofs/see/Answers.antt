use Rattle.lines.proofs.Tests.{or-false}
use Rattle.lexical.specs.Inner.Phi.{sees}
use Rattle.lexical.proofs.see.Goals as goal

pub returns : goal.returns
unfolding sees
returns c = simp or-false
