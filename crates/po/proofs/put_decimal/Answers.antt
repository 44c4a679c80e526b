use native.Mathlib.Omega.{arith}
use mathlib.Core.Path.{refl, ap, ◌∙◌}
use Prim.Native.Nat.{ℕ, ◌+◌}
use lib.ListN.{length-set}
use Rattle.po.proofs.DigitLaws.{digit-start, digit-in, digit-length, digit-on, digit-end, digits-some}
use Rattle.po.proofs.put_decimal.Goals as goal

pub digit_count-requires : goal.digit_count-requires
digit_count-requires c = tt

pub overflow_add-e : goal.overflow_add-e
overflow_add-e c = omega (arith, c.requires, c.digit_count.ensures)

pub overflow_sub-p : goal.overflow_sub-p
overflow_sub-p c = omega (arith, digits-some c.args.n, c.digit_count.ensures)

pub loop-m-init : goal.loop-m-init
loop-m-init c = let a = c.args in digit-start a.n a.o c.digit_count.result _ a.out.now (omega arith) c.requires c.digit_count.ensures refl

pub bounds-out-p : goal.bounds-out-p
bounds-out-p c = digit-in c.loop-m.invariant

pub overflow_sub-p-in-loop-m : goal.overflow_sub-p-in-loop-m
overflow_sub-p-in-loop-m c = (digit-on c.loop-m.invariant c.loop-m-test.true).0

pub loop-m-preserved : goal.loop-m-preserved
loop-m-preserved c = (digit-on c.loop-m.invariant c.loop-m-test.true).1

pub bounds-out-p-2 : goal.bounds-out-p-2
bounds-out-p-2 c = digit-in c.loop-m.invariant

pub shape_of-out : goal.shape_of-out
shape_of-out c = let l = c.loop-m in length-set l.out l.p _ ∙ digit-length l.invariant

pub returns : goal.returns
returns c = let a = c.args in digit-end c.loop-m.invariant c.loop-m-test.false _ (ap (λ (k : ℕ). a.o + k) c.digit_count.ensures)
