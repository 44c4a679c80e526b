use Rattle.lines.proofs.LfLaws.{eight-at}
use Rattle.lexical.proofs.lacks_eight.Goals as goal

pub returns : goal.returns
returns c = let a = c.args in eight-at a.b a.s.now a.j c.requires
