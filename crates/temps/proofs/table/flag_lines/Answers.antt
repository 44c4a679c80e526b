use Rattle.temps.specs.Inner.Table.{flag_lines}
use Rattle.temps.proofs.TableLaws.{flag-start, lines-on, lines-done}
use Rattle.lines.proofs.EachLaws.{at-front, goes, stops}
use Rattle.temps.proofs.table.flag_lines.Goals as goal

pub loop-line-init : goal.loop-line-init
loop-line-init c = let e = c.into_iter-line-iterator.ensures.into_iter_gives in let g = c.each-line-items.ensures in (at-front e g.text g.front, rw (e, g.front) (flag-start (flag_lines c.args.own.now) _ _))

pub loop-line-preserved : goal.loop-line-preserved
loop-line-preserved c = let k = goes c.loop-line.invariant.0 c.in-Some.ensures.steps in (k.on, lines-on _ c.loop-line.invariant.1 c.in-Some.line.to _ c.in-Some.line.bytes.now c.trim.result.now _ k.here.starts k.here.to k.here.bytes c.trim.ensures.0 c.flag_reads.ensures k.here.next)

pub shape_of-table : goal.shape_of-table
shape_of-table c = c.loop-line.invariant.1.long

pub returns : goal.returns
returns c = lines-done _ c.loop-line.invariant.1 (stops c.loop-line.invariant.0 c.in-None.ensures.steps)
