use Rattle.std.proofs.Common.{sym, ◌∙◌, arith}
use Rattle.slots.proofs.GatherLaws.{long-least, long-none, long-end}
use Rattle.slots.proofs.gather.has_long.Goals as goal

pub returns-then-text-lt4 : goal.returns-then-text-lt4
returns-then-text-lt4 c = sym (long-none c.args.text.now 0 0 (omega (arith, c.if-text-lt4.true)))

pub loop-i-preserved : goal.loop-i-preserved
loop-i-preserved c = long-least c.args.text.now c.loop-i.i c.loop-i.least c.four_above.result (omega arith) c.four_above.ensures c.min-least.result c.min-least.ensures ∙ c.loop-i.invariant

pub returns : goal.returns
returns c = long-end c.args.text.now c.loop-i.i c.loop-i.least (omega arith) ∙ c.loop-i.invariant
