use Rattle.std.proofs.Common.{sym, ◌∙◌, arith}
use Rattle.lexical.proofs.EndLaws.{comment-close, comment-star, comment-more, comment-none}
use Rattle.lexical.proofs.comment_end.Goals.{then-s-j-eq42+else-byte_at-eq47, else-s-j-eq42}
use Rattle.lexical.proofs.comment_end.Goals as goal

pub returns-then-byte_at-eq47 : goal.returns-then-byte_at-eq47
returns-then-byte_at-eq47 c = let a = c.args in let l = c.loop-j in let k = sym (comment-close a.s.now l.j c.loop-j-test.true c.if-s-j-eq42.true (sym c.byte_at.ensures ∙ c.if-byte_at-eq47.true)) ∙ l.invariant in omega arith

pub loop-j-preserved : goal.loop-j-preserved
loop-j-preserved c =
    let a = c.args in
    let l = c.loop-j in
    elim c.if-s-j-eq42.branch [
      | then-s-j-eq42+else-byte_at-eq47 w ↦ sym (comment-star a.s.now l.j c.loop-j-test.true (λ e. w.if-byte_at-eq47.false (w.byte_at.ensures ∙ e))) ∙ l.invariant
      | else-s-j-eq42 w ↦ sym (comment-more a.s.now l.j c.loop-j-test.true w.if-s-j-eq42.false) ∙ l.invariant
    ]

pub returns : goal.returns
returns c = let a = c.args in grind (arith, comment-none a.s.now c.loop-j.j c.loop-j-test.false, comment-none a.s.now a.i)
