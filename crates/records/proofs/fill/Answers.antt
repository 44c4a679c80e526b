use Prim.Native.Nat.{◌+◌, ◌≤◌, ◌^◌}
use mathlib.Core.Path.{sym, subst}
use native.Mathlib.Omega.{arith}
use Rattle.records.specs.declared.LineRec.{LineRec}
use Rattle.records.specs.Inner.Records.{start_below}
use Rattle.records.proofs.Shown.{window-start, window-done, window-lt, window_on, window-end}
use Rattle.records.proofs.fill.Goals as goal

pub overflow_sub-n : goal.overflow_sub-n
overflow_sub-n c = omega (arith, c.requires.0.0)

pub overflow_sub-recs : goal.overflow_sub-recs
overflow_sub-recs c = omega (arith, c.requires.0.1.1.1)

pub get-above-requires : goal.get-above-requires
get-above-requires c = omega (arith, c.requires.0.1.1.1)

pub start_below-i-requires : goal.start_below-i-requires
start_below-i-requires c = subst (λ (a : LineRec). start_below c.args.k a ≤ 2 ^ 63) (sym c.get-above.ensures) c.requires.1.0

pub loop-j-init : goal.loop-j-init
loop-j-init c = let a = c.args in window-start a.ends.now a.blocks.now a.n a.k a.recs.now c.min-m.ensures c.get-above.ensures c.start_below-i.ensures c.region_below-c.ensures c.requires.1.1

pub overflow_add-k : goal.overflow_add-k
overflow_add-k c = omega (arith, (window-lt c.loop-j.invariant c.loop-j-test.true).0, c.ranges.n)

pub record_at-rec-requires : goal.record_at-rec-requires
record_at-rec-requires c = let p = c.requires in let w = (window-lt c.loop-j.invariant c.loop-j-test.true).0 in (omega (arith, w, p.0.1.0), (omega (arith, w, p.0.1.1.0), c.loop-j.invariant.low))

pub put-requires : goal.put-requires
put-requires c = (window-lt c.loop-j.invariant c.loop-j-test.true).1

pub overflow_add-i : goal.overflow_add-i
overflow_add-i c = omega (arith, window-end c.loop-j.invariant c.loop-j-test.true c.record_at-rec.ensures (omega (arith, c.shared_slice_known-1.given (c.args.k + c.loop-j.j))))

pub loop-j-preserved : goal.loop-j-preserved
loop-j-preserved c = window_on c.loop-j.invariant c.loop-j-test.true c.record_at-rec.ensures c.put.ensures

pub returns : goal.returns
returns c = window-done c.loop-j.invariant c.loop-j-test.false
