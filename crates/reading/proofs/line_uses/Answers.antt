use Rattle.reading.specs.Uses.{line_uses}
use Rattle.reading.proofs.line_uses.Goals as goal

pub returns : goal.returns
unfolding line_uses
returns c = rw (c.use_of-u.ensures.0, c.use_of-u.ensures.1)
