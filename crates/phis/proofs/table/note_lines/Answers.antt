use Rattle.phis.proofs.TableLaws.{lines_start, lines-on, lines-done}
use Rattle.lines.proofs.EachLaws.{at-front, goes, stops}
use Rattle.phis.proofs.table.note_lines.Goals as goal

pub loop-line-init : goal.loop-line-init
loop-line-init c = let e = c.into_iter-line-iterator.ensures.into_iter_gives in let g = c.each-line-items.ensures in (at-front e g.text g.front, rw (e, g.front) (lines_start _ _ _))

pub loop-line-preserved : goal.loop-line-preserved
loop-line-preserved c = let k = goes c.loop-line.invariant.0 c.in-Some.ensures.steps in (k.on, lines-on c.loop-line.invariant.1 c.in-Some.line.to _ c.in-Some.line.bytes.now _ k.here.starts k.here.to k.here.bytes c.note_line.ensures k.here.next)

pub shape_of-table : goal.shape_of-table
shape_of-table c = c.loop-line.invariant.1.long

pub returns : goal.returns
returns c = lines-done c.loop-line.invariant.1 (stops c.loop-line.invariant.0 c.in-None.ensures.steps)
