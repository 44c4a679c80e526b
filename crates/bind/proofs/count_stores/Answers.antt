use native.Mathlib.Omega.{arith}
use mathlib.Core.Path.{refl}
use Rattle.bind.proofs.CountLaws.{stores-on, stores-end}
use Rattle.lines.proofs.EachLaws.{at-front, goes, stops}
use Rattle.bind.proofs.count_stores.Goals as goal

pub loop-line-init : goal.loop-line-init
loop-line-init c = let e = c.into_iter-line-iterator.ensures.into_iter_gives in let g = c.each-line-items.ensures in (at-front e g.text g.front, rw (e, g.front) ((c.requires, refl)))

pub loop-line-preserved : goal.loop-line-preserved
loop-line-preserved c = let k = goes c.loop-line.invariant.0 c.in-Some.ensures.steps in (
  k.on,
  let u = c.stores_reg-s in
      (omega (arith, c.one_more-m.ensures), omega (arith, c.one_more-m.ensures, stores-on c.args.reg.0 c.args.text.now c.loop-line.line-iterator.at c.in-Some.line.to _ k.here.starts k.here.to k.here.next c.in-Some.line.bytes.now k.here.bytes u.result u.ensures, c.loop-line.invariant.1.1)),
)

pub returns : goal.returns
returns c = omega (arith, c.loop-line.invariant.1.0, stores-end c.args.reg.0 c.args.text.now c.loop-line.line-iterator.at (stops c.loop-line.invariant.0 c.in-None.ensures.steps), c.loop-line.invariant.1.1)
