use mathlib.Core.Path.{refl}
use Rattle.lines.specs.Lf.{lines_of}
use Rattle.reading.specs.Reading.{plain}
use Rattle.calls.proofs.StepLaws.{as-end, put-after, put_step, absorb-reads, absorb-later, absorb-breaks, absorb-puts}
use native.Mathlib.Omega.{arith}
use Rattle.calls.proofs.absorb.Goals as goal

pub returns-then-u-ne1 : goal.returns-then-u-ne1
returns-then-u-ne1 c = let a = c.args in as-end refl (absorb-reads plain a.line.now a.reg.0 a.value.now (lines_of a.below.now) (lines_of a.taken.now) a.owner.now _ c.use_of-u.ensures.0 c.if-u-ne1.true)

pub overflow_add-owner : goal.overflow_add-owner
overflow_add-owner c = omega (arith)

pub is_read-requires : goal.is_read-requires
is_read-requires c = c.requires.1

pub returns-then-is_read : goal.returns-then-is_read
returns-then-is_read c = let a = c.args in as-end refl (absorb-later plain a.line.now a.reg.0 a.value.now (lines_of a.below.now) (lines_of a.taken.now) a.owner.now _ c.use_of-u.ensures.0 c.if-u-ne1.false _ c.is_read.ensures c.if-is_read.true)

pub breaks_above-requires : goal.breaks_above-requires
breaks_above-requires c = omega (arith, c.requires.0)

pub returns-then-breaks_above : goal.returns-then-breaks_above
returns-then-breaks_above c = let a = c.args in as-end c.breaks_above.auto.out (absorb-breaks plain a.line.now a.reg.0 a.value.now (lines_of a.below.now) (lines_of a.taken.now) a.owner.now _ c.use_of-u.ensures.0 c.if-u-ne1.false _ c.is_read.ensures c.if-is_read.false _ c.breaks_above.ensures c.if-breaks_above.true)

pub put_in-requires : goal.put_in-requires
put_in-requires c = omega (arith, c.requires.0, c.breaks_above.auto.out)

pub returns : goal.returns
returns c = let a = c.args in put_step (absorb-puts plain a.line.now a.reg.0 a.value.now (lines_of a.below.now) (lines_of a.taken.now) a.owner.now _ c.use_of-u.ensures.0 c.if-u-ne1.false _ c.is_read.ensures c.if-is_read.false _ c.breaks_above.ensures c.if-breaks_above.false) (put-after c.breaks_above.auto.out c.put_in.ensures)
