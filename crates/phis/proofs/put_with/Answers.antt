use native.Mathlib.Omega.{arith}
use mathlib.Core.Path.{refl, sym, ap}
use lib.ListN.{length}
use Rattle.lines.proofs.Tests.{so}
use Rattle.lines.proofs.OutLaws.{wrote_as, writing-length}
use Rattle.reading.specs.Reading.{reading_of}
use Rattle.phis.proofs.Writes.{round-start, round_room, round-on, round-end}
use Rattle.phis.proofs.Whole.{none-round}
use Rattle.phis.proofs.Moves.{none-thin, thin-start, thin-room, thin-on, thin-end}
use Rattle.lines.proofs.EachLaws.{at-front, goes, stops}
use Rattle.phis.proofs.put_with.Goals as goal

pub any_dead-requires : goal.any_dead-requires
any_dead-requires c = c.requires.0

pub put_lines-p-requires : goal.put_lines-p-requires
put_lines-p-requires c = omega (arith, c.requires.1.1.0, ap length (none-round (reading_of c.args.mode.0) c.args.text.now (so c.any_dead.ensures c.if-not-any_dead.true)))

pub returns-then-not-any_dead : goal.returns-then-not-any_dead
returns-then-not-any_dead c =
    let k = so c.any_dead.ensures c.if-not-any_dead.true in
    record { answer = wrote_as (none-round (reading_of c.args.mode.0) c.args.text.now k) c.put_lines-p.ensures; found = sym k; memory = refl; moves = none-thin (reading_of c.args.mode.0) c.args.text.now c.args.moves.now k }

pub loop-line-init : goal.loop-line-init
loop-line-init c = let e = c.into_iter-line-iterator.ensures.into_iter_gives in let g = c.each-line-items.ensures in (at-front e g.text g.front, rw (e, g.front) (let d = so c.any_dead.ensures c.if-not-any_dead.false in (round-start _ _ _ _ c.requires.1.0 c.requires.1.1.0 d, thin-start _ _ _ d c.requires.1.1.1)))

pub put_line-p-requires : goal.put_line-p-requires
put_line-p-requires c = let k = goes c.loop-line.invariant.0 c.in-Some.ensures.steps in (c.requires.0, round_room c.loop-line.invariant.1.0 c.in-Some.line.to k.here.starts k.here.to c.in-Some.line.bytes.now k.here.bytes)

pub note_next-k-requires : goal.note_next-k-requires
note_next-k-requires c = let k = goes c.loop-line.invariant.0 c.in-Some.ensures.steps in thin-room c.loop-line.invariant.1.1 c.in-Some.line.to k.here.starts k.here.to c.in-Some.line.bytes.now k.here.bytes

pub loop-line-preserved : goal.loop-line-preserved
loop-line-preserved c = let k = goes c.loop-line.invariant.0 c.in-Some.ensures.steps in (
  k.on,
  let put = c.put_line-p in (
    round-on c.loop-line.invariant.1.0 c.in-Some.line.to k.here.starts k.here.to c.in-Some.line.bytes.now k.here.bytes _ _ _ _ put.ensures.answer put.ensures.memory put.auto.scratch k.here.next,
    thin-on c.loop-line.invariant.1.1 c.in-Some.line.to k.here.starts k.here.to c.in-Some.line.bytes.now k.here.bytes _ put.ensures.answer c.note_next-k.ensures k.here.next,
  ),
)

pub shape_of-scratch : goal.shape_of-scratch
shape_of-scratch c = c.loop-line.invariant.1.0.same-scratch

pub shape_of-out : goal.shape_of-out
shape_of-out c = writing-length c.loop-line.invariant.1.0.writing

pub shape_of-moves : goal.shape_of-moves
shape_of-moves c = c.loop-line.invariant.1.1.same

pub returns : goal.returns
returns c =
    record { answer = round-end c.loop-line.invariant.1.0 (stops c.loop-line.invariant.0 c.in-None.ensures.steps); found = sym (so c.any_dead.ensures c.if-not-any_dead.false); memory = c.loop-line.invariant.1.0.memory; moves = thin-end c.loop-line.invariant.1.1 (stops c.loop-line.invariant.0 c.in-None.ensures.steps) }
