use Rattle.std.proofs.Common.{sym, arith}
use Rattle.slots.proofs.SlotLaws.{seek-most, slot-low, slot-high}
use Rattle.slots.proofs.slot.Goals as goal

pub returns-then-v-low : goal.returns-then-v-low
returns-then-v-low c = let a = c.args in sym (slot-low a.n a.own.now a.v (omega (arith, c.if-v-low.true, c.low_of-low.ensures)))

pub overflow_add-result : goal.overflow_add-result
overflow_add-result c = let a = c.args in let z = seek-most a.own.now a.v in omega (arith, z, c.seek.ensures, c.low_of-low.ensures)

pub returns : goal.returns
returns c = let a = c.args in let y = slot-high a.n a.own.now a.v (omega (arith, c.if-v-low.false, c.low_of-low.ensures)) in omega (arith, y, c.seek.ensures, c.low_of-low.ensures)
