use Rattle.lines.proofs.OutLaws.{writing-length}
use Rattle.temps.proofs.PassLaws.{temp-start, temp-room, move-room, temp-on, temp-end, temp-memory, temp-moves}
use Rattle.lines.proofs.EachLaws.{at-front, goes, stops}
use Rattle.temps.proofs.prune_with.Goals as goal

pub loop-line-init : goal.loop-line-init
loop-line-init c = let e = c.into_iter-line-iterator.ensures.into_iter_gives in let g = c.each-line-items.ensures in (at-front e g.text g.front, rw (e, g.front) (temp-start _ _ _ _ _ _ c.requires.0.0 c.requires.1.0 c.requires.1.1))

pub put_line-p-requires : goal.put_line-p-requires
put_line-p-requires c = let k = goes c.loop-line.invariant.0 c.in-Some.ensures.steps in rw k.here.bytes (let r = temp-room c.loop-line.invariant.1 c.in-Some.line.to k.here.starts k.here.to in
    ((r.0, c.requires.0.1), r.1))

pub note-k-requires : goal.note-k-requires
note-k-requires c = let k = goes c.loop-line.invariant.0 c.in-Some.ensures.steps in move-room c.loop-line.invariant.1 c.in-Some.line.to k.here.starts k.here.to

pub loop-line-preserved : goal.loop-line-preserved
loop-line-preserved c = let k = goes c.loop-line.invariant.0 c.in-Some.ensures.steps in (
  k.on,
  let p = c.put_line-p in
      temp-on c.loop-line.invariant.1 c.in-Some.line.to k.here.starts k.here.to _ _ _ _ _ _ (rw k.here.bytes at p.ensures.answer) (rw k.here.bytes at p.ensures.memory) p.auto.scratch c.note-k.ensures k.here.next,
)

pub shape_of-scratch : goal.shape_of-scratch
shape_of-scratch c = c.loop-line.invariant.1.same-scratch

pub shape_of-out : goal.shape_of-out
shape_of-out c = writing-length c.loop-line.invariant.1.writing

pub shape_of-moves : goal.shape_of-moves
shape_of-moves c = writing-length c.loop-line.invariant.1.noting

pub returns : goal.returns
returns c =
    record { answer = temp-end c.loop-line.invariant.1 (stops c.loop-line.invariant.0 c.in-None.ensures.steps); memory = temp-memory c.loop-line.invariant.1 (stops c.loop-line.invariant.0 c.in-None.ensures.steps); moves = temp-moves c.loop-line.invariant.1 (stops c.loop-line.invariant.0 c.in-None.ensures.steps) }
