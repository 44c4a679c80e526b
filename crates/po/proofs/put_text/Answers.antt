use Rattle.std.proofs.Common.{arith}
use Rattle.lines.proofs.OutLaws.{writing_start, writing-as, writing-length, writing-room, writing-put, writing-end}
use Rattle.po.proofs.UnitLaws.{units-at, escaped-more, escaped-none, escaped-length}
use Rattle.po.proofs.put_text.Goals as goal

pub loop-b-init : goal.loop-b-init
loop-b-init c = rw (units-at c.into_iter-b-iterator.ensures.into_iter_gives c.each-b-items.ensures.rest c.each-b-items.ensures.quote) (writing_start c.args.o _ c.args.out.now c.requires)

pub put_escape-p-requires : goal.put_escape-p-requires
put_escape-p-requires c = omega (arith, writing-room c.loop-b.invariant, escaped-length c.in-Some.ensures.steps.1)

pub loop-b-preserved : goal.loop-b-preserved
loop-b-preserved c = writing-put (writing-as (escaped-more c.in-Some.ensures.steps.1) c.loop-b.invariant) c.put_escape-p.ensures

pub shape_of-out : goal.shape_of-out
shape_of-out c = writing-length c.loop-b.invariant

pub returns : goal.returns
returns c = writing-end (writing-as (escaped-none c.in-None.ensures.steps.1) c.loop-b.invariant)
