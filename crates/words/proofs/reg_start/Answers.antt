use mathlib.Core.Path.{sym, ◌∙◌}
use mathlib.Core.Bool.{false}
use native.Mathlib.Omega.{arith}
use Rattle.words.specs.Inner.Runs.{after_name}
use Rattle.words.proofs.RunLaws.{reg-here, reg-on, reg-none}
use Rattle.words.proofs.reg_start.Goals as goal

pub returns-then-begins_reg : goal.returns-then-begins_reg
returns-then-begins_reg c =
    let a = c.args in
    let l = c.loop-j in
    omega (arith, reg-here a.s.now a.i l.j (omega arith) c.loop-j-test.true (sym c.begins_reg.ensures ∙ c.if-begins_reg.true), l.invariant)

pub loop-j-preserved : goal.loop-j-preserved
loop-j-preserved c =
    let a = c.args in
    let l = c.loop-j in
    omega (arith, reg-on a.s.now a.i l.j (omega arith) c.loop-j-test.true (sym c.begins_reg.ensures ∙ c.if-begins_reg.false), l.invariant)

pub returns : goal.returns
returns c =
    let a = c.args in
    let l = c.loop-j in
    grind (arith, reg-none (after_name a.i l.j a.s.now) a.s.now l.j c.loop-j-test.false, reg-none false a.s.now a.i, l.invariant)
