use mathlib.Core.Path.{sym, ap, ◌∙◌}
use mathlib.Core.Bool.{not}
use Rattle.lexical.proofs.JoinedLaws.{comment-other, comment-slash, comment-is}
use Rattle.lexical.proofs.opens_comment.Goals as goal

pub returns-then-s-i-ne47 : goal.returns-then-s-i-ne47
returns-then-s-i-ne47 c = let a = c.args in sym (comment-other a.s.now a.i c.if-s-i-ne47.true)

pub returns-then-byte_at-ne42 : goal.returns-then-byte_at-ne42
returns-then-byte_at-ne42 c = let a = c.args in sym (comment-slash a.s.now a.i c.if-s-i-ne47.false (λ e. c.if-byte_at-ne42.true (c.byte_at.ensures ∙ e)))

pub returns : goal.returns
returns c = let a = c.args in ap not c.comment_shut.ensures ∙ sym (comment-is a.s.now a.i c.if-s-i-ne47.false (sym c.byte_at.ensures ∙ c.if-byte_at-ne42.false))
