use mathlib.Core.Bool.{true, false}
use native.Mathlib.Omega.{arith}
use borrow.Author.Tests.{eq-eqb, ne_eqb}
use Rattle.once.proofs.NoteFills.{write-past, read-in, write-in}
use Rattle.once.proofs.noted.note_write.Goals as goal

pub returns-then-stores-v : goal.returns-then-stores-v
returns-then-stores-v c =
    let whole = write-past c.args.own.now c.args.reg.0 c.args.stores.now c.args.far.now c.slot-v.result c.slot-v.ensures c.requires c.if-stores-v.true c.args.m c.args.x in
    record { alone = whole.0; stores = whole.1 }

pub bounds-far-v : goal.bounds-far-v
bounds-far-v c = omega (arith, c.if-stores-v.false, c.requires)

pub returns-then-x-eq-NOTE_ALONE : goal.returns-then-x-eq-NOTE_ALONE
returns-then-x-eq-NOTE_ALONE c =
    record { alone = write-in c.args.own.now c.args.reg.0 c.args.stores.now c.args.far.now c.slot-v.result c.slot-v.ensures c.requires c.args.m c.args.x true (eq-eqb c.args.x 7 c.if-x-eq-NOTE_ALONE.true); stores = (read-in c.args.own.now c.args.reg.0 c.args.stores.now c.args.far.now c.slot-v.result c.slot-v.ensures c.requires c.args.m).0 }

pub returns-else-x-eq-NOTE_ALONE : goal.returns-else-x-eq-NOTE_ALONE
returns-else-x-eq-NOTE_ALONE c =
    record { alone = write-in c.args.own.now c.args.reg.0 c.args.stores.now c.args.far.now c.slot-v.result c.slot-v.ensures c.requires c.args.m c.args.x false (ne_eqb c.args.x 7 c.if-x-eq-NOTE_ALONE.false); stores = (read-in c.args.own.now c.args.reg.0 c.args.stores.now c.args.far.now c.slot-v.result c.slot-v.ensures c.requires c.args.m).0 }
