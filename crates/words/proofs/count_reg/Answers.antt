use Prim.Native.Nat.{ℕ}
use mathlib.Core.Path.{refl}
use mathlib.Core.List.{List}
use native.Mathlib.Omega.{arith}
use Rattle.names.specs.Names.{reg_of, reg_is}
use Rattle.words.proofs.RunLaws.{run_inside, count-end, regs-start, regs-less, regs-next, names-skip}
use Rattle.words.proofs.count_reg.Goals as goal

pub loop-i-init : goal.loop-i-init
loop-i-init c = let a = c.args in regs-start (λ (r : List ℕ). reg_is a.reg.0 (reg_of r)) (names-skip a.reg.0) a.s.now c.reg_start-i.result c.reg_start-i.ensures

pub slice_bounds-names_reg-end : goal.slice_bounds-names_reg-end
slice_bounds-names_reg-end c = omega (arith, c.run_end-e.ensures, run_inside c.args.s.now c.loop-i.i c.loop-i.invariant.i≤)

pub loop-i-smaller : goal.loop-i-smaller
loop-i-smaller c =
    let a = c.args in
    let l = c.loop-i in
    let k = regs-less (λ (r : List ℕ). reg_is a.reg.0 (reg_of r)) (names-skip a.reg.0) a.s.now l.invariant c.loop-i-test.true _ c.run_end-e.ensures _ refl _ c.names_reg.ensures _ c.one_if-n.ensures _ c.reg_start-i-in-loop-i.ensures in
    omega (arith, k, c.loop-i-test.true)

pub loop-i-preserved : goal.loop-i-preserved
loop-i-preserved c =
    let a = c.args in
    let l = c.loop-i in
    regs-next (λ (r : List ℕ). reg_is a.reg.0 (reg_of r)) (names-skip a.reg.0) a.s.now l.invariant c.loop-i-test.true _ c.run_end-e.ensures _ refl _ c.names_reg.ensures _ c.one_if-n.ensures _ c.reg_start-i-in-loop-i.ensures

pub returns : goal.returns
returns c = let a = c.args in count-end (λ (r : List ℕ). reg_is a.reg.0 (reg_of r)) a.s.now c.loop-i.invariant c.loop-i-test.false
