use mathlib.Core.Path.{refl, sym, ◌∙◌}
use native.Mathlib.Omega.{arith}
use Rattle.text.specs.Trim.{to_of}
use Rattle.text.proofs.Whites.{tail-le}
use Rattle.text.proofs.Trims.{back-stop, back_on, back_start}
use Rattle.text.proofs.skip_back.Goals as goal

pub loop-e-init : goal.loop-e-init
unfolding to_of
loop-e-init c = (omega arith, refl)

pub returns-then-n-eq0 : goal.returns-then-n-eq0
returns-then-n-eq0 c = sym (back-stop _ _ c.loop-e-test.true (sym c.white_before-n.ensures ∙ c.if-n-eq0.true)) ∙ c.loop-e.invariant.1

pub overflow_sub-e : goal.overflow_sub-e
overflow_sub-e c = let s = c.args.s.now in let e = c.loop-e.e in let k = tail-le s e c.loop-e.invariant.0 c.loop-e-test.true in omega arith

pub loop-e-preserved : goal.loop-e-preserved
loop-e-preserved c = (omega arith, sym (back_on _ _ _ c.loop-e-test.true (sym c.white_before-n.ensures) c.if-n-eq0.false) ∙ c.loop-e.invariant.1)

pub returns : goal.returns
returns c = sym (back_start _ _ c.loop-e-test.false) ∙ c.loop-e.invariant.1
