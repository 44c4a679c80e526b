use Rattle.lines.proofs.OutLaws.{writing-length}
use Rattle.globals.proofs.Laws.{remove-start, remove-room, move-room, remove-on, remove-end, move-end}
use Rattle.lines.proofs.EachLaws.{at-front, goes, stops}
use Rattle.globals.proofs.remove_lines.Goals as goal

pub loop-line-init : goal.loop-line-init
loop-line-init c = let e = c.into_iter-line-iterator.ensures.into_iter_gives in let g = c.each-line-items.ensures in (at-front e g.text g.front, rw (e, g.front) (remove-start _ _ _ c.requires.0 c.requires.1))

pub put_line-p-requires : goal.put_line-p-requires
put_line-p-requires c = let k = goes c.loop-line.invariant.0 c.in-Some.ensures.steps in rw k.here.bytes (remove-room c.loop-line.invariant.1 c.in-Some.line.to k.here.starts k.here.to)

pub note-k-requires : goal.note-k-requires
note-k-requires c = let k = goes c.loop-line.invariant.0 c.in-Some.ensures.steps in move-room c.loop-line.invariant.1 c.in-Some.line.to k.here.starts k.here.to

pub loop-line-preserved : goal.loop-line-preserved
loop-line-preserved c = let k = goes c.loop-line.invariant.0 c.in-Some.ensures.steps in (k.on, remove-on c.loop-line.invariant.1 c.in-Some.line.to k.here.starts k.here.to _ _ _ _ _ (rw k.here.bytes at c.put_line-p.ensures) c.note-k.ensures k.here.next)

pub shape_of-out : goal.shape_of-out
shape_of-out c = writing-length c.loop-line.invariant.1.writing

pub shape_of-moves : goal.shape_of-moves
shape_of-moves c = writing-length c.loop-line.invariant.1.noting

pub returns : goal.returns
returns c =
    record { answer = remove-end c.loop-line.invariant.1 (stops c.loop-line.invariant.0 c.in-None.ensures.steps); moves = move-end c.loop-line.invariant.1 (stops c.loop-line.invariant.0 c.in-None.ensures.steps) }
