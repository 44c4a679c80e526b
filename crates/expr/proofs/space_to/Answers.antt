use Rattle.std.proofs.Common.{◌≡◌, ℕ, ◌+◌, ◌-◌, take, sym, ap, ◌∙◌, arith}
use lib.Seq.{take-length}
use Rattle.expr.proofs.SpaceLaws.{end-stop, end_more, end-end}
use Rattle.expr.proofs.space_to.Goals as goal

pub loop-n-init : goal.loop-n-init
loop-n-init c = rw take-length

pub returns-then-not-is_space : goal.returns-then-not-is_space
returns-then-not-is_space c =
    let l = c.loop-n in
    let s = c.args.s.now in
    let e : l.n - 1 + 1 ≡ l.n = omega arith in
    (omega arith, ap (λ (n : ℕ). take n s) e ∙ sym (l.invariant ∙ end-stop _ l.n (omega arith) (omega arith) (sym c.is_space.ensures ∙ c.if-not-is_space.true)))

pub loop-n-preserved : goal.loop-n-preserved
loop-n-preserved c = let l = c.loop-n in l.invariant ∙ end_more _ l.n (omega arith) (omega arith) (sym c.is_space.ensures ∙ c.if-not-is_space.false)

pub returns : goal.returns
returns c = let l = c.loop-n in let s = c.args.s.now in let e : l.n ≡ 0 = omega arith in (omega arith, sym (l.invariant ∙ end-end _ l.n c.loop-n-test.false ∙ ap (λ (n : ℕ). take n s) e))
