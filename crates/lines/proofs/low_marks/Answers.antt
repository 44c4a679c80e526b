use Rattle.std.proofs.Common.{arith, rules}
use Rattle.lines.proofs.Words8.{low-eight}
use Rattle.lines.proofs.low_marks.Goals as goal

pub returns : goal.returns
returns c =
    let a = c.args in
    let w = c.wide.ensures.0 in
    let g = c.wrapping_sub_u64.ensures.value in
    rw w
    (low-eight a.s.now a.j c.requires a.b c.word_at.result (search rules)
    (λ i. omega (arith, c.shared_slice_known-1.given i)) c.word_at.ensures c.wrapping_sub_u64.result (rw w at g))
