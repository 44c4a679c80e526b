use mathlib.Core.Bool.{true, false}
use Rattle.pruned.proofs.FitCode.{takes_none, takes-by}
use Rattle.pruned.proofs.fit.taken_at.Goals as goal

pub returns-then-b-tag : goal.returns-then-b-tag
returns-then-b-tag c = takes_none c.args.n c.args.tag c.args.d.now c.args.marks.now c.args.g c.byte_at-b.result c.byte_at-b.ensures c.if-b-tag.true

pub returns-then-has_digits : goal.returns-then-has_digits
returns-then-has_digits c = takes-by c.args.n c.args.tag c.args.d.now c.args.marks.now c.args.g c.byte_at-b.result c.byte_at-b.ensures c.if-b-tag.false c.has_digits.result true c.has_digits.ensures c.if-has_digits.true

pub returns : goal.returns
returns c = takes-by c.args.n c.args.tag c.args.d.now c.args.marks.now c.args.g c.byte_at-b.result c.byte_at-b.ensures c.if-b-tag.false c.has_digits.result false c.has_digits.ensures c.if-has_digits.false
