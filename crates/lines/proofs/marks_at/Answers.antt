use Rattle.std.proofs.Common.{arith, rules}
use Rattle.lines.proofs.Words8.{marks-eight}
use Rattle.lines.proofs.marks_at.Goals as goal

pub returns : goal.returns
returns c =
    let a = c.args in
    rw c.wide.ensures.0
    (marks-eight a.s.now a.j c.requires a.b c.word_at.result (search rules)
    (λ i. omega (arith, c.shared_slice_known-1.given i)) c.word_at.ensures)
