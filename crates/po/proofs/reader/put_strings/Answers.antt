use native.Mathlib.Omega.{arith}
use Rattle.lines.proofs.OutLaws.{wrote-length}
use Rattle.po.proofs.StateLaws.{given-start, given-room, given-step, last-room, given-end}
use Rattle.po.proofs.reader.put_strings.Goals as goal

pub find_byte-e-requires : goal.find_byte-e-requires
find_byte-e-requires c = tt

pub loop-e-init : goal.loop-e-init
loop-e-init c = given-start c.args.file.now c.args.out.now _ c.requires c.find_byte-e.ensures

pub cut-requires : goal.cut-requires
cut-requires c = tt

pub put_given-o-requires : goal.put_given-o-requires
put_given-o-requires c = given-room c.loop-e.invariant _ c.cut.ensures c.loop-e-test.true

pub next_awaited-w-requires : goal.next_awaited-w-requires
next_awaited-w-requires c = c.loop-e.invariant.low

pub overflow_add-i : goal.overflow_add-i
overflow_add-i c = omega (arith, c.loop-e-test.true)

pub find_byte-e-requires-in-loop-e : goal.find_byte-e-requires-in-loop-e
find_byte-e-requires-in-loop-e c = tt

pub loop-e-smaller : goal.loop-e-smaller
loop-e-smaller c = omega (arith, c.loop-e-test.true, c.loop-e.invariant.ends)

pub loop-e-preserved : goal.loop-e-preserved
loop-e-preserved c = given-step c.loop-e.invariant _ c.cut.ensures c.loop-e-test.true _ _ _ _ c.put_given-o.ensures c.next_awaited-w.ensures c.find_byte-e-in-loop-e.ensures

pub cut-requires-2 : goal.cut-requires-2
cut-requires-2 c = tt

pub put_given-requires : goal.put_given-requires
put_given-requires c = last-room c.loop-e.invariant _ c.cut-2.ensures c.loop-e-test.false

pub shape_of-out : goal.shape_of-out
shape_of-out c = wrote-length (given-end c.loop-e.invariant _ c.cut-2.ensures c.loop-e-test.false _ _ c.put_given.ensures)

pub returns : goal.returns
returns c = given-end c.loop-e.invariant _ c.cut-2.ensures c.loop-e-test.false _ _ c.put_given.ensures
