use mathlib.Core.Path.{sym, ◌∙◌}
use native.Mathlib.Omega.{arith}
use Rattle.place.proofs.Quiet.{ahead-start, ahead-here, ahead-on, ahead-end}
use Rattle.lines.proofs.EachLaws.{at-front, goes, stops}
use Rattle.place.proofs.find_loop.Goals as goal

pub loop-line-init : goal.loop-line-init
loop-line-init c = let e = c.into_iter-line-iterator.ensures.into_iter_gives in let g = c.each-line-items.ensures in (at-front e g.text g.front, rw (e, g.front) (ahead-start c.args.text.now))

pub returns-then-starts_loop : goal.returns-then-starts_loop
returns-then-starts_loop c = let k = goes c.loop-line.invariant.0 c.in-Some.ensures.steps in ahead-here c.loop-line.invariant.1 k.here.starts c.in-Some.line.to k.here.to (sym (rw k.here.bytes at c.starts_loop.ensures) ∙ c.if-starts_loop.true)

pub overflow_add-k : goal.overflow_add-k
overflow_add-k c = let k = goes c.loop-line.invariant.0 c.in-Some.ensures.steps in omega (arith, c.loop-line.invariant.1.k≤, k.here.starts)

pub loop-line-preserved : goal.loop-line-preserved
loop-line-preserved c = let k = goes c.loop-line.invariant.0 c.in-Some.ensures.steps in (k.on, ahead-on c.loop-line.invariant.1 k.here.starts c.in-Some.line.to k.here.to (sym (rw k.here.bytes at c.starts_loop.ensures) ∙ c.if-starts_loop.false) _ k.here.next)

pub returns : goal.returns
returns c = ahead-end c.loop-line.invariant.1 (stops c.loop-line.invariant.0 c.in-None.ensures.steps)
