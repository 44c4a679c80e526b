use Rattle.std.proofs.Common.{sym, ◌∙◌, arith}
use Rattle.lines.proofs.LfLaws.{count-le}
use Rattle.lines.proofs.StepLaws.{missing-ended, missing-empty, missing-open}
use Rattle.lines.proofs.Counts.{split-count}
use Rattle.lines.proofs.count_lines.Goals as goal

pub returns-then-ends_lf : goal.returns-then-ends_lf
returns-then-ends_lf c = let t = c.args.text.now in omega (arith, split-count t (missing-ended t (sym c.ends_lf.ensures ∙ c.if-ends_lf.true)), c.count_byte-n.ensures)

pub returns-then-text-eq0 : goal.returns-then-text-eq0
returns-then-text-eq0 c = let t = c.args.text.now in omega (arith, split-count t (missing-empty t c.if-text-eq0.true), c.count_byte-n.ensures)

pub overflow_add-result : goal.overflow_add-result
overflow_add-result c = let t = c.args.text.now in omega (arith, count-le 10 t, c.count_byte-n.ensures)

pub returns : goal.returns
returns c = let t = c.args.text.now in omega (arith, split-count t (missing-open t (sym c.ends_lf.ensures ∙ c.if-ends_lf.false) c.if-text-eq0.false), c.count_byte-n.ensures)
