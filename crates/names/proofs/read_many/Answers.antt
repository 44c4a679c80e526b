use mathlib.Core.Path.{sym, ap, ◌∙◌}
use Prim.Native.Nat.{◌+◌}
use native.Mathlib.Omega.{arith}
use lib.Dec.{lit<}
use lib.ListN.{drop, drop_of_length-le}
use Rattle.std.proofs.lemmas.Bool.Decides.{nat_tests}
use Rattle.names.specs.Names.{numbered}
use Rattle.names.proofs.Digits.{number-none, number-some, number-other, number-digit, number-end, too_large}
use Rattle.names.proofs.read_many.Goals as goal

pub returns-then-is_empty : goal.returns-then-is_empty
returns-then-is_empty c = sym (number-none _ (grind (arith, nat_tests)))

pub loop-d-init : goal.loop-d-init
loop-d-init c = (lit< tt, sym (number-some c.args.s.now (grind (arith, nat_tests))))

pub returns-in_err-x : goal.returns-in_err-x
returns-in_err-x c = let s = c.args.s.now in let l = c.loop-d in c.from_residual.ensures ∙ sym (number-other s l.d-index l.v c.loop-d-test.true c.in_err-x.ensures) ∙ l.invariant.1

pub returns-in_err-checked_mul : goal.returns-in_err-checked_mul
returns-in_err-checked_mul c =
    let s = c.args.s.now in
    let l = c.loop-d in
    let m = c.in_err-checked_mul.ensures in
    c.from_residual-in_err-checked_mul.ensures ∙ sym (number-digit s l.d-index l.v c.loop-d-test.true c.in_ok-x.ensures.0 ∙ too_large _ _ (omega arith)) ∙ l.invariant.1

pub returns-in_err-v : goal.returns-in_err-v
returns-in_err-v c =
    let s = c.args.s.now in
    let l = c.loop-d in
    let x = c.in_ok-x.ensures in
    let m = c.in_ok-checked_mul.ensures in
    let a = c.in_err-v.ensures in
    c.from_residual-in_err-v.ensures ∙ sym (number-digit s l.d-index l.v c.loop-d-test.true c.in_ok-x.ensures.0 ∙ too_large _ _ (omega arith)) ∙ l.invariant.1

pub loop-d-preserved : goal.loop-d-preserved
loop-d-preserved c =
    let s = c.args.s.now in
    let l = c.loop-d in
    let x = c.in_ok-x.ensures in
    let m = c.in_ok-checked_mul.ensures in
    let a = c.in_ok-v.ensures in
    (omega arith, ap (λ v. numbered v (drop (l.d-index + 1) s)) (omega arith) ∙ sym (number-digit s l.d-index l.v c.loop-d-test.true c.in_ok-x.ensures.0) ∙ l.invariant.1)

pub returns : goal.returns
returns c = let s = c.args.s.now in let l = c.loop-d in sym (number-end l.v l.invariant.0) ∙ sym (ap (numbered l.v) (drop_of_length-le s c.loop-d-test.false)) ∙ l.invariant.1
