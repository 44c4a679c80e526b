use Prim.Native.Nat.{ℕ}
use mathlib.Core.Path.{ap, ◌∙◌}
use mathlib.Core.List.{List}
use native.Mathlib.Omega.{arith}
use Rattle.place.specs.Inner.Loops.{nest_line}
use Rattle.place.proofs.Nests.{loops-start, loops-place, loops-on, loops-length, loops-done}
use Rattle.lines.proofs.EachLaws.{at-front, goes, stops}
use Rattle.place.proofs.walk_loops.Goals as goal

pub loop-line-init : goal.loop-line-init
loop-line-init c = let e = c.into_iter-line-iterator.ensures.into_iter_gives in let g = c.each-line-items.ensures in (at-front e g.text g.front, rw (e, g.front) (loops-start c.args.text.now c.args.flags.now c.requires))

pub bounds-flags-k : goal.bounds-flags-k
bounds-flags-k c = let k = goes c.loop-line.invariant.0 c.in-Some.ensures.steps in loops-place c.loop-line.invariant.1 k.here.starts c.in-Some.line.to k.here.to

pub overflow_add-k : goal.overflow_add-k
overflow_add-k c = let k = goes c.loop-line.invariant.0 c.in-Some.ensures.steps in omega (arith, loops-place c.loop-line.invariant.1 k.here.starts c.in-Some.line.to k.here.to, loops-length c.loop-line.invariant.1)

pub nest_line-x-requires : goal.nest_line-x-requires
nest_line-x-requires c = let k = goes c.loop-line.invariant.0 c.in-Some.ensures.steps in omega (arith, c.loop-line.invariant.1.d≤, k.here.starts)

pub loop-line-preserved : goal.loop-line-preserved
loop-line-preserved c = let k = goes c.loop-line.invariant.0 c.in-Some.ensures.steps in (
  k.on,
  let l = c.loop-line in
      loops-on l.invariant.1 k.here.starts c.in-Some.line.to k.here.to c.nest_line-x.result c.flag.result _
      c.flag.ensures (c.nest_line-x.ensures ∙ ap (λ (s : List ℕ). nest_line s l.d l.o) (rw k.here.bytes at c.trim.ensures).0) k.here.next,
)

pub shape_of-flags : goal.shape_of-flags
shape_of-flags c = loops-length c.loop-line.invariant.1

pub returns : goal.returns
returns c = loops-done c.loop-line.invariant.1 (stops c.loop-line.invariant.0 c.in-None.ensures.steps)
