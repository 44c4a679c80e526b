use mathlib.Core.Bool.{not}
use lib.Dec.{eqb}
use Prim.Native.Nat.{◌+◌, min}
use native.Mathlib.Omega.{arith}
use mathlib.Core.Path.{refl, ◌∙◌}
use borrow.Author.Tests.{eqb-true, not-true}
use lib.ListN.{length}
use Rattle.lines.specs.Lf.{part}
use Rattle.lines.proofs.Tests.{and_left, and_right}
use Rattle.lines.proofs.LfLaws.{find-le}
use Rattle.lines.proofs.OutLaws.{writing-length}
use Rattle.once.proofs.NotedFills.{rows_on}
use Rattle.once.proofs.Writes.{acts-start, acts-pass, held_fits, acts-fit, acts-go, last_fits, acts-end}
use Rattle.once.proofs.put_acts.Goals as goal

pub loop-i-init : goal.loop-i-init
loop-i-init c = acts-start c.args.text.now c.args.marks.now c.args.out.now _ (omega (arith, c.requires.1))

pub end_at-e-requires : goal.end_at-e-requires
end_at-e-requires c = c.requires.0 c.loop-i.k c.loop-i.i c.loop-i.invariant.rows

pub overflow_add-k : goal.overflow_add-k
overflow_add-k c = omega (arith, c.loop-i.invariant.k≤, c.loop-i-test.true)

pub loop-i-smaller-then-m-given : goal.loop-i-smaller-then-m-given
loop-i-smaller-then-m-given c = omega (arith, c.after-i.ensures, c.end_at-e.ensures, c.loop-i-test.true)

pub loop-i-preserved-then-m-given : goal.loop-i-preserved-then-m-given
loop-i-preserved-then-m-given c = acts-pass c.loop-i.invariant c.loop-i-test.true c.end_at-e.result c.end_at-e.ensures c.after-i.result c.after-i.ensures (rows_on c.args.text.now c.loop-i.i c.loop-i.k c.end_at-e.result c.after-i.result c.loop-i.invariant.rows c.loop-i-test.true c.end_at-e.ensures c.after-i.ensures) c.byte_at-m.result c.byte_at-m.ensures (eqb-true c.byte_at-m.result 0 (and_left (eqb c.byte_at-m.result 0) (not c.loop-i.given) c.if-m-given.true)) (not-true c.loop-i.given (and_right (eqb c.byte_at-m.result 0) (not c.loop-i.given) c.if-m-given.true))

pub overflow_add-k-else-m-given : goal.overflow_add-k-else-m-given
overflow_add-k-else-m-given c = omega (arith, c.loop-i.invariant.k≤, c.loop-i-test.true)

pub put-p-requires : goal.put-p-requires
put-p-requires c = held_fits c.loop-i.invariant c.loop-i-test.true c.end_at-e.result c.end_at-e.ensures (min (c.end_at-e.result + 1) (length c.args.text.now)) refl (rows_on c.args.text.now c.loop-i.i c.loop-i.k c.end_at-e.result (min (c.end_at-e.result + 1) (length c.args.text.now)) c.loop-i.invariant.rows c.loop-i-test.true c.end_at-e.ensures refl) c.byte_at-m.result c.byte_at-m.ensures c.byte_at-n.result c.byte_at-n.ensures (part c.loop-i.a c.loop-i.b c.args.text.now) refl c.cut.result.now c.cut.ensures

pub slice_bounds-put_act-end : goal.slice_bounds-put_act-end
slice_bounds-put_act-end c = omega (arith, find-le 10 c.args.text.now c.loop-i.i c.end_at-e.result c.loop-i.invariant.i≤ c.end_at-e.ensures)

pub put_act-o-requires : goal.put_act-o-requires
put_act-o-requires c = acts-fit c.loop-i.invariant c.loop-i-test.true c.end_at-e.result c.end_at-e.ensures (min (c.end_at-e.result + 1) (length c.args.text.now)) refl (rows_on c.args.text.now c.loop-i.i c.loop-i.k c.end_at-e.result (min (c.end_at-e.result + 1) (length c.args.text.now)) c.loop-i.invariant.rows c.loop-i-test.true c.end_at-e.ensures refl) c.byte_at-m.result c.byte_at-m.ensures c.byte_at-n.result c.byte_at-n.ensures c.cut-else-m-given.result.now c.cut-else-m-given.ensures c.cut.result.now c.cut.ensures c.put-p.ensures

pub overflow_add-k-else-m-given-2 : goal.overflow_add-k-else-m-given-2
overflow_add-k-else-m-given-2 c = omega (arith, c.loop-i.invariant.k≤, c.loop-i-test.true)

pub loop-i-smaller : goal.loop-i-smaller
loop-i-smaller c = omega (arith, c.after-i-else-m-given.ensures, c.end_at-e.ensures, c.loop-i-test.true)

pub loop-i-preserved : goal.loop-i-preserved
loop-i-preserved c = acts-go c.loop-i.invariant c.loop-i-test.true c.end_at-e.result c.end_at-e.ensures c.after-i-else-m-given.result c.after-i-else-m-given.ensures (rows_on c.args.text.now c.loop-i.i c.loop-i.k c.end_at-e.result c.after-i-else-m-given.result c.loop-i.invariant.rows c.loop-i-test.true c.end_at-e.ensures c.after-i-else-m-given.ensures) c.byte_at-m.result c.byte_at-m.ensures c.byte_at-n.result c.byte_at-n.ensures c.cut-else-m-given.result.now c.cut-else-m-given.ensures c.cut.result.now c.cut.ensures c.put-p.ensures c.put_act-o.ensures

pub put_lines-requires : goal.put_lines-requires
put_lines-requires c = last_fits c.loop-i.invariant c.loop-i-test.false c.cut-2.result.now c.cut-2.ensures

pub shape_of-out : goal.shape_of-out
shape_of-out c = c.put_lines.auto.out ∙ writing-length c.loop-i.invariant.writing

pub returns : goal.returns
returns c = acts-end c.loop-i.invariant c.loop-i-test.false c.cut-2.result.now c.cut-2.ensures c.put_lines.ensures
