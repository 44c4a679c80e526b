use Prim.Native.Nat.{◌≤◌}
use mathlib.Core.Path.{sym, ◌∙◌}
use native.Mathlib.Omega.{arith}
use lib.ListN.{length}
use Rattle.words.proofs.RunLaws.{run_inside, next_start, next-less, next-on, next-found, next-end}
use Rattle.words.proofs.Places.{reg_run, reg-skips}
use Rattle.words.proofs.next_long.Goals as goal

pub loop-j-init : goal.loop-j-init
loop-j-init c = let a = c.args in next_start (reg_run a.reg.0) (reg-skips a.reg.0) a.s.now a.i _ c.reg_start-j.ensures

pub slice_bounds-is_reg_text-end : goal.slice_bounds-is_reg_text-end
slice_bounds-is_reg_text-end c =
    let l : c.loop-j.j ≤ length c.args.s.now = omega arith in
    omega (arith, c.run_end-e.ensures, run_inside c.args.s.now c.loop-j.j l)

pub returns-then-is_reg_text : goal.returns-then-is_reg_text
returns-then-is_reg_text c =
    let a = c.args in
    next-found (reg_run a.reg.0) (reg-skips a.reg.0) a.s.now a.i c.loop-j.invariant c.loop-j-test.true _ c.run_end-e.ensures
    (sym c.is_reg_text.ensures ∙ c.if-is_reg_text.true)

pub loop-j-smaller : goal.loop-j-smaller
loop-j-smaller c =
    let a = c.args in
    let k = next-less (reg_run a.reg.0) (reg-skips a.reg.0) a.s.now a.i c.loop-j.invariant c.loop-j-test.true _ c.run_end-e.ensures _ c.reg_start-j-in-loop-j.ensures in
    omega (arith, k, c.loop-j-test.true)

pub loop-j-preserved : goal.loop-j-preserved
loop-j-preserved c =
    let a = c.args in
    next-on (reg_run a.reg.0) (reg-skips a.reg.0) a.s.now a.i c.loop-j.invariant c.loop-j-test.true _ c.run_end-e.ensures _
    (sym c.is_reg_text.ensures ∙ c.if-is_reg_text.false) c.reg_start-j-in-loop-j.ensures

pub returns : goal.returns
returns c = let a = c.args in next-end (reg_run a.reg.0) (reg-skips a.reg.0) a.s.now a.i c.loop-j.invariant c.loop-j-test.false
