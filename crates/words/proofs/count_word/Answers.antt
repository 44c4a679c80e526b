use Prim.Native.Nat.{ℕ}
use mathlib.Core.List.{List}
use native.Mathlib.Omega.{arith}
use Rattle.lines.specs.Lf.{same}
use Rattle.words.proofs.RunLaws.{count-start, count_less, count_next, count-end}
use Rattle.words.proofs.count_word.Goals as goal

pub loop-i-init : goal.loop-i-init
loop-i-init c = let a = c.args in count-start (λ (r : List ℕ). same r a.p.now) a.s.now c.run_start-i.result c.run_start-i.ensures

pub loop-i-smaller : goal.loop-i-smaller
loop-i-smaller c =
    let a = c.args in
    let l = c.loop-i in
    let k = count_less (λ (r : List ℕ). same r a.p.now) a.s.now l.invariant c.loop-i-test.true _ c.run_end-e.ensures _ c.cut.ensures _ c.same.ensures _ c.one_if-n.ensures _ c.run_start-i-in-loop-i.ensures in
    omega (arith, k, c.loop-i-test.true)

pub loop-i-preserved : goal.loop-i-preserved
loop-i-preserved c =
    let a = c.args in
    let l = c.loop-i in
    count_next (λ (r : List ℕ). same r a.p.now) a.s.now l.invariant c.loop-i-test.true _ c.run_end-e.ensures _ c.cut.ensures _ c.same.ensures _ c.one_if-n.ensures _ c.run_start-i-in-loop-i.ensures

pub returns : goal.returns
returns c = let a = c.args in count-end (λ (r : List ℕ). same r a.p.now) a.s.now c.loop-i.invariant c.loop-i-test.false
