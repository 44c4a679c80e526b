use native.Mathlib.Omega.{arith}
use Rattle.pruned.proofs.FitCode.{name-start, name-end, name-here, name-on}
use Rattle.pruned.proofs.fit.find_name.Goals as goal

pub loop-g-init : goal.loop-g-init
loop-g-init c = name-start c.args.marks.now c.args.i c.args.m c.args.tag c.args.d.now c.cut-s.result.now c.cut-s.ensures c.find_far-g.result c.find_far-g.ensures

pub returns-then-has_digits : goal.returns-then-has_digits
returns-then-has_digits c = name-here c.args.marks.now c.args.i c.args.m c.args.tag c.args.d.now c.cut-s.result.now c.cut-s.ensures c.loop-g.invariant c.loop-g-test.true c.has_digits.result c.has_digits.ensures c.if-has_digits.true

pub loop-g-smaller : goal.loop-g-smaller
loop-g-smaller c = omega (arith, c.find_byte-g.ensures)

pub loop-g-preserved : goal.loop-g-preserved
loop-g-preserved c = name-on c.args.marks.now c.args.i c.args.m c.args.tag c.args.d.now c.cut-s.result.now c.cut-s.ensures c.loop-g.invariant c.loop-g-test.true c.has_digits.result c.has_digits.ensures c.if-has_digits.false c.find_byte-g.result c.find_byte-g.ensures

pub returns : goal.returns
returns c = name-end c.args.marks.now c.args.i c.args.m c.args.tag c.args.d.now c.cut-s.result.now c.cut-s.ensures c.loop-g.invariant c.loop-g-test.false
