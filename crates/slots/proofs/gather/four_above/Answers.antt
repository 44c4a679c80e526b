use Rattle.slots.proofs.GatherLaws.{four_below}
use Rattle.slots.proofs.gather.four_above.Goals as goal

pub returns : goal.returns
returns c = four_below c.args.s.now c.args.i c.above_zero.result c.above_zero-2.result c.above_zero-3.result c.above_zero-4.result c.above_zero.ensures c.above_zero-2.ensures c.above_zero-3.ensures c.above_zero-4.ensures c.max-front.ensures c.max-back.ensures c.max.ensures
