use mathlib.Core.Path.{sym, ◌∙◌}
use Rattle.std.specs.declared.result.Result.TheVariants.{Ok, Err}
use Rattle.limits.proofs.AnswerLaws.{text-long, work-short, text-read, text-bad}
use Rattle.limits.proofs.refused.Goals as goal

pub returns-then-text-m : goal.returns-then-text-m
returns-then-text-m c = text-long c.args.m c.args.form c.args.text.now (Ok 0) _ c.if-text-m.true

pub returns-then-short : goal.returns-then-short
returns-then-short c = work-short c.args.m c.args.form c.args.text.now (Ok 0) _ c.if-text-m.false c.if-short.true

pub returns-in-Err : goal.returns-in-Err
returns-in-Err c = text-bad c.args.m c.args.form c.args.text.now (Ok 0) _ c.if-text-m.false c.if-short.false c.by_flaw.ensures c.flaw_at.ensures (sym c.check_utf8.ensures ∙ c.in-Err.is)

pub returns-in-Ok : goal.returns-in-Ok
returns-in-Ok c = c.refused_lines.ensures ∙ text-read c.args.m c.args.form c.args.text.now (Ok 0) _ c.if-text-m.false c.if-short.false (sym c.check_utf8.ensures ∙ c.in-Ok.is)
