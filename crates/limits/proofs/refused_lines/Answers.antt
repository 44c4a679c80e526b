use mathlib.Core.Path.{sym, ap, ◌∙◌}
use native.Mathlib.Omega.{arith}
use Rattle.std.specs.declared.result.Result.TheVariants.{Ok, Err}
use Rattle.limits.specs.Entry.{is_wide}
use Rattle.limits.proofs.AnswerLaws.{lines-many, lines-wide, lines-few}
use Rattle.limits.proofs.refused_lines.Goals as goal

pub returns-then-n-m : goal.returns-then-n-m
returns-then-n-m c = lines-many c.args.m c.args.form c.args.text.now (Ok 0) (omega (arith, c.if-n-m.true, c.count_lines-n.ensures))

pub returns-then-is_wide : goal.returns-then-is_wide
returns-then-is_wide c = lines-wide c.args.m c.args.form c.args.text.now (Ok 0) (omega (arith, c.if-n-m.false, c.count_lines-n.ensures)) (sym (ap (is_wide c.args.form) c.count_lines-n.ensures) ∙ sym c.is_wide.ensures ∙ c.if-is_wide.true)

pub returns-in-Some : goal.returns-in-Some
returns-in-Some c = lines-few c.args.m c.args.form c.args.text.now (Ok 0) (omega (arith, c.if-n-m.false, c.count_lines-n.ensures)) (sym (ap (is_wide c.args.form) c.count_lines-n.ensures) ∙ sym c.is_wide.ensures ∙ c.if-is_wide.false) (sym c.crowded_line.ensures ∙ c.in-Some.is)

pub returns-in-None : goal.returns-in-None
returns-in-None c = lines-few c.args.m c.args.form c.args.text.now (Ok 0) (omega (arith, c.if-n-m.false, c.count_lines-n.ensures)) (sym (ap (is_wide c.args.form) c.count_lines-n.ensures) ∙ sym c.is_wide.ensures ∙ c.if-is_wide.false) (sym c.crowded_line.ensures ∙ c.in-None.is)
