use native.Mathlib.Omega.{arith}
use Rattle.std.proofs.Common.{rules, ◌≡◌, sym, refl, ◌∙◌}
use Rattle.std.specs.declared.result.Result.TheVariants.{Err}
use Rattle.reader.specs.Replies.{Reply}
use Rattle.reader.proofs.Laws.{check-start, check-end, check-bad, check-long, check-on, flaw-none, flaw-some}
use Rattle.reader.proofs.check.Goals as goal

pub loop-o-init : goal.loop-o-init
loop-o-init c = check-start _ _

pub returns-in_err-fault_at : goal.returns-in_err-fault_at
returns-in_err-fault_at c =
    let e : ◌≡◌ {A = Reply} c.from_residual.result (Err c.in_err-fault_at.field-0.0) = search rules in
    let bad = flaw-some _ c.loop-o.i _ (sym c.in_err-fault_at.was ∙ c.fault_at.ensures) in
    e ∙ bad.1 ∙ check-bad c.loop-o.invariant c.loop-o-test.true _ refl bad.0

pub overflow_add-o : goal.overflow_add-o
overflow_add-o c = omega (arith, c.size_of-z.ensures, check-long c.loop-o.invariant c.loop-o-test.true _ refl (flaw-none _ _ (sym c.in_ok-fault_at.was ∙ c.fault_at.ensures)))

pub loop-o-smaller : goal.loop-o-smaller
loop-o-smaller c = omega (arith, c.size_of-z.ensures, c.loop-o-test.true)

pub loop-o-preserved : goal.loop-o-preserved
loop-o-preserved c = rw c.size_of-z.ensures (check-on c.loop-o.invariant c.loop-o-test.true _ refl (flaw-none _ _ (sym c.in_ok-fault_at.was ∙ c.fault_at.ensures)))

pub returns : goal.returns
returns c = check-end c.loop-o.invariant c.loop-o-test.false
