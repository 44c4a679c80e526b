use mathlib.Core.Path.{sym, ◌∙◌}
use native.Mathlib.Omega.{arith}
use Rattle.lexical.proofs.JoinedLaws.{open-start, open-on, open-comment, open-template, open_next, open-end}
use Rattle.lexical.proofs.open_tokens.Goals as goal

pub no_tail-tail-requires : goal.no_tail-tail-requires
no_tail-tail-requires c = tt

pub loop-i-init : goal.loop-i-init
loop-i-init c = open-start c.args.s.now _ c.no_tail-tail.ensures

pub opens_comment-requires : goal.opens_comment-requires
opens_comment-requires c = c.loop-i-test.true

pub returns-then-opens_comment : goal.returns-then-opens_comment
returns-then-opens_comment c = open-comment c.loop-i.invariant c.loop-i-test.true (sym c.opens_comment.ensures ∙ c.if-opens_comment.true)

pub opens_template-requires : goal.opens_template-requires
opens_template-requires c = c.loop-i-test.true

pub returns-then-opens_template : goal.returns-then-opens_template
returns-then-opens_template c = open-template c.loop-i.invariant c.loop-i-test.true (sym c.opens_comment.ensures ∙ c.if-opens_comment.false) (sym c.opens_template.ensures ∙ c.if-opens_template.true)

pub step_at-step-requires : goal.step_at-step-requires
step_at-step-requires c = tt

pub loop-i-smaller : goal.loop-i-smaller
loop-i-smaller c = let r = c.step_at-step in let m = open-on c.loop-i.invariant c.loop-i-test.true r.result r.ensures in omega arith

pub loop-i-preserved : goal.loop-i-preserved
loop-i-preserved c = let r = c.step_at-step in open_next c.loop-i.invariant c.loop-i-test.true (sym c.opens_comment.ensures ∙ c.if-opens_comment.false) r.result r.ensures (sym c.opens_template.ensures ∙ c.if-opens_template.false)

pub returns : goal.returns
returns c = open-end c.loop-i.invariant c.loop-i-test.false
