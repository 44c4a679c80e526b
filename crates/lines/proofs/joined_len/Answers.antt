use Rattle.std.proofs.Common.{sym, ◌∙◌}
use Rattle.lines.proofs.JoinLaws.{joined_end, joined_length}
use Rattle.lines.proofs.joined_len.Goals as goal

pub returns-then-ends_lf-2 : goal.returns-then-ends_lf-2
unfolding joined_end
returns-then-ends_lf-2 c = let a = c.args in sym (joined_length a.ended a.lf.now ∙ rw (sym c.ends_lf.ensures ∙ c.if-ends_lf.true, c.if-ended.true, sym c.ends_lf-then-ended.ensures ∙ c.if-ends_lf-2.true))

pub returns-then-ended : goal.returns-then-ended
unfolding joined_end
returns-then-ended c = let a = c.args in sym (joined_length a.ended a.lf.now ∙ rw (sym c.ends_lf.ensures ∙ c.if-ends_lf.true, c.if-ended.true, sym c.ends_lf-then-ended.ensures ∙ c.if-ends_lf-2.false))

pub returns-then-ends_lf : goal.returns-then-ends_lf
unfolding joined_end
returns-then-ends_lf c = let a = c.args in sym (joined_length a.ended a.lf.now ∙ rw (sym c.ends_lf.ensures ∙ c.if-ends_lf.true, c.if-ended.false))

pub returns-then-ended-2 : goal.returns-then-ended-2
unfolding joined_end
returns-then-ended-2 c = let a = c.args in sym (joined_length a.ended a.lf.now ∙ rw (sym c.ends_lf.ensures ∙ c.if-ends_lf.false, c.if-ended-2.true))

pub returns : goal.returns
unfolding joined_end
returns c = let a = c.args in sym (joined_length a.ended a.lf.now ∙ rw (sym c.ends_lf.ensures ∙ c.if-ends_lf.false, c.if-ended-2.false))
