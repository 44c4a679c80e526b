use Rattle.lexical.specs.Inner.Lex.{pushed}
use Rattle.lexical.proofs.push.Goals as goal

pub returns : goal.returns
unfolding pushed
returns c = rw c.last_after.ensures
