use Rattle.std.proofs.Common.{arith}
use Rattle.lines.proofs.Words8.{word-eight}
use Rattle.lines.proofs.word_at.Goals as goal

pub returns : goal.returns
returns c =
    let a = c.args in
    omega (arith, word-eight a.s.now a.j c.requires)
