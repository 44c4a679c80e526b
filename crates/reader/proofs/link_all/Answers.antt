use native.Mathlib.Omega.{arith}
use Rattle.reader.proofs.ChainLaws.{fill-length, fill-own, chain-start, chain-nexts, chain-on, chain-end}
use Rattle.reader.proofs.link_all.Goals as goal

pub loop-i-init : goal.loop-i-init
loop-i-init c = chain-start _ _ _ _ _ c.requires.0 c.requires.1 (fill-own c.args.first.now c.args.m (c.fill.ensures.after (λ y e. e)))

pub bounds-next-i : goal.bounds-next-i
bounds-next-i c = omega (arith, chain-nexts c.loop-i.invariant, c.loop-i.invariant.i≤, c.loop-i.invariant.room, c.loop-i-test.true)

pub loop-i-preserved : goal.loop-i-preserved
loop-i-preserved c = chain-on _ c.loop-i.i c.loop-i.invariant (omega (arith, c.loop-i-test.true)) _ c.record_at-w.ensures _ _ c.link_line-x.ensures.answer c.link_line-x.ensures.memory

pub returns : goal.returns
returns c =
    let whole = chain-end c.loop-i.invariant (fill-length c.args.first.now c.args.m (c.fill.ensures.after (λ y e. e))) (omega (arith, c.loop-i-test.false)) in
    record { firsts = whole.0; nexts = whole.1 }
