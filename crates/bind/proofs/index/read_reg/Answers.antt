use Rattle.bind.proofs.IndexLaws.{entry_past, read_low, read-high}
use Rattle.bind.proofs.index.read_reg.Goals as goal

pub returns-then-first-v : goal.returns-then-first-v
returns-then-first-v c = entry_past c.args.own.now c.args.reg.0 c.args.first.now c.slot-v.ensures _ c.if-first-v.true

pub returns-then-first-v-2 : goal.returns-then-first-v-2
returns-then-first-v-2 c = read-high c.args.own.now c.args.reg.0 c.args.first.now c.slot-v.ensures c.args.b c.if-first-v-2.true

pub returns : goal.returns
returns c = read_low c.args.own.now c.args.reg.0 c.args.first.now c.slot-v.ensures c.args.b c.if-first-v-2.false
