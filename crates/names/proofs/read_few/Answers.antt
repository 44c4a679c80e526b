use mathlib.Core.Path.{sym, ap, ◌∙◌}
use Prim.Native.Nat.{◌+◌, ◌*◌}
use native.Mathlib.Omega.{arith}
use lib.ListN.{drop, drop_of_length-le}
use Rattle.std.proofs.lemmas.Bool.Decides.{nat_tests}
use Rattle.names.specs.Names.{numbered}
use Rattle.names.proofs.Digits.{number-none, number-some, number-other, number-digit, number-end, few-below, few-more}
use Rattle.names.proofs.read_few.Goals as goal

pub returns-then-is_empty : goal.returns-then-is_empty
returns-then-is_empty c = sym (number-none _ (grind (arith, nat_tests)))

pub loop-d-init : goal.loop-d-init
loop-d-init c = (omega arith, sym (number-some c.args.s.now (grind (arith, nat_tests))))

pub returns-in_err-v : goal.returns-in_err-v
returns-in_err-v c = let s = c.args.s.now in let l = c.loop-d in c.from_residual.ensures ∙ sym (number-other s l.d-index l.v c.loop-d-test.true c.in_err-v.ensures) ∙ l.invariant.1

pub loop-d-preserved : goal.loop-d-preserved
loop-d-preserved c =
    let s = c.args.s.now in
    let l = c.loop-d in
    let d = c.in_ok-v.ensures in
    (few-more l.d-index l.v _ d.2 l.invariant.0, ap (λ x. numbered (l.v * 10 + x) (drop (l.d-index + 1) s)) d.1 ∙ sym (number-digit s l.d-index l.v c.loop-d-test.true d.0) ∙ l.invariant.1)

pub returns : goal.returns
returns c = let s = c.args.s.now in let l = c.loop-d in sym (number-end l.v (omega (arith, few-below l.d-index l.v (omega arith) l.invariant.0))) ∙ sym (ap (numbered l.v) (drop_of_length-le s c.loop-d-test.false)) ∙ l.invariant.1
