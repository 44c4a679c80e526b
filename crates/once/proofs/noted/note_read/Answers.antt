use mathlib.Core.Path.{◌∙◌}
use mathlib.Core.Bool.{true, false}
use native.Mathlib.Omega.{arith}
use Rattle.once.proofs.NoteFills.{read_past, read-in, back_on}
use Rattle.once.proofs.noted.note_read.Goals as goal

pub returns-then-near-v : goal.returns-then-near-v
returns-then-near-v c =
    let whole = read_past c.args.own.now c.args.reg.0 c.args.near.now c.args.far.now c.slot-v.result c.slot-v.ensures c.requires c.if-near-v.true c.args.m c.args.n c.args.h c.args.notes.now in
    record { rows = whole.0; seconds = whole.1.0; notes = whole.1.1 }

pub bounds-far-v : goal.bounds-far-v
bounds-far-v c = omega (arith, c.if-near-v.false, c.requires)

pub bounds-far-v-2 : goal.bounds-far-v-2
bounds-far-v-2 c = omega (arith, c.if-near-v.false, c.requires)

pub returns-then-h-r : goal.returns-then-h-r
returns-then-h-r c =
    let r = read-in c.args.own.now c.args.reg.0 c.args.near.now c.args.far.now c.slot-v.result c.slot-v.ensures c.requires c.args.m in
    record { rows = r.0; seconds = r.1; notes = c.take_back.ensures ∙ back_on c.args.own.now c.args.reg.0 c.args.near.now c.args.far.now c.slot-v.result c.slot-v.ensures c.requires c.args.n c.args.h c.args.notes.now true c.if-h-r.true }

pub returns : goal.returns
returns c =
    let r = read-in c.args.own.now c.args.reg.0 c.args.near.now c.args.far.now c.slot-v.result c.slot-v.ensures c.requires c.args.m in
    record { rows = r.0; seconds = r.1; notes = back_on c.args.own.now c.args.reg.0 c.args.near.now c.args.far.now c.slot-v.result c.slot-v.ensures c.requires c.args.n c.args.h c.args.notes.now false c.if-h-r.false }
