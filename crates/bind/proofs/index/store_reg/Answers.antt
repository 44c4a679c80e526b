use Rattle.bind.proofs.IndexLaws.{entry_past, store_low, store-high}
use Rattle.bind.proofs.index.store_reg.Goals as goal

pub returns-then-first-v : goal.returns-then-first-v
returns-then-first-v c = entry_past c.args.own.now c.args.reg.0 c.args.first.now c.slot-v.ensures _ c.if-first-v.true

pub returns-then-first-v-2 : goal.returns-then-first-v-2
returns-then-first-v-2 c = store_low c.args.own.now c.args.reg.0 c.args.first.now c.slot-v.ensures c.args.b c.args.c c.if-first-v-2.true

pub returns : goal.returns
returns c = store-high c.args.own.now c.args.reg.0 c.args.first.now c.slot-v.ensures c.args.b c.args.c c.if-first-v-2.false
