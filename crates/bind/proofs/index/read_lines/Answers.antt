use native.Mathlib.Omega.{arith}
use mathlib.Core.Path.{refl}
use Rattle.bind.proofs.IndexLaws.{reads-start, reads-room, reads_on, reads-done}
use Rattle.lines.proofs.EachLaws.{at-front, goes, stops}
use Rattle.bind.proofs.index.read_lines.Goals as goal

pub loop-line-init : goal.loop-line-init
loop-line-init c = let e = c.into_iter-line-iterator.ensures.into_iter_gives in let g = c.each-line-items.ensures in (at-front e g.text g.front, rw (e, g.front) (let a = c.args in reads-start a.own.now a.m a.b a.n a.text.now a.seen.now a.first.now))

pub overflow_add-k : goal.overflow_add-k
overflow_add-k c = let k = goes c.loop-line.invariant.0 c.in-Some.ensures.steps in omega (arith, reads-room _ c.loop-line.invariant.1 k.here.starts c.requires.1)

pub read_line-requires : goal.read_line-requires
read_line-requires c = omega (arith, c.requires.0, c.loop-line.invariant.1.long-d, c.loop-line.invariant.1.long-u)

pub overflow_add-k-in-loop-line : goal.overflow_add-k-in-loop-line
overflow_add-k-in-loop-line c = let k = goes c.loop-line.invariant.0 c.in-Some.ensures.steps in omega (arith, reads-room _ c.loop-line.invariant.1 k.here.starts c.requires.1)

pub loop-line-preserved : goal.loop-line-preserved
loop-line-preserved c = let k = goes c.loop-line.invariant.0 c.in-Some.ensures.steps in (k.on, reads_on _ c.loop-line.invariant.1 c.in-Some.line.to _ _ k.here.starts k.here.to refl k.here.next (rw k.here.bytes at c.read_line.ensures.marked) (rw k.here.bytes at c.read_line.ensures.again))

pub shape_of-seen : goal.shape_of-seen
shape_of-seen c = c.loop-line.invariant.1.long-d

pub shape_of-first : goal.shape_of-first
shape_of-first c = c.loop-line.invariant.1.long-u

pub returns : goal.returns
returns c =
    let whole = reads-done _ c.loop-line.invariant.1 (stops c.loop-line.invariant.0 c.in-None.ensures.steps) in
    record { marked = whole.0; again = whole.1 }
