use Rattle.std.proofs.Common.{◌≡◌, ℕ, length, drop, sym, ap, ◌∙◌, arith}
use Rattle.expr.proofs.SpaceLaws.{start-stop, start-more, start-end}
use Rattle.expr.proofs.space_from.Goals as goal

pub returns-then-not-is_space : goal.returns-then-not-is_space
returns-then-not-is_space c = let l = c.loop-i in (omega arith, sym (l.invariant ∙ start-stop _ l.i (omega arith) (sym c.is_space.ensures ∙ c.if-not-is_space.true)))

pub loop-i-preserved : goal.loop-i-preserved
loop-i-preserved c = let l = c.loop-i in l.invariant ∙ start-more _ l.i (omega arith) (sym c.is_space.ensures ∙ c.if-not-is_space.false)

pub returns : goal.returns
returns c = let l = c.loop-i in let s = c.args.s.now in let e : l.i ≡ length s = omega arith in (omega arith, sym (l.invariant ∙ start-end _ l.i c.loop-i-test.false ∙ ap (λ (n : ℕ). drop n s) e))
