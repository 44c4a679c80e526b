use Prim.Native.Nat.{ℕ}
use mathlib.Core.Path.{sym, ap, ◌∙◌}
use native.Mathlib.Omega.{arith}
use Rattle.lexical.proofs.ByteLaws.{point_by, point-by, point-many}
use Rattle.lexical.proofs.code_point.Goals as goal

pub returns-in-0 : goal.returns-in-0
unfolding point_by
returns-in-0 c = let s = c.args.c.now in ap (λ (n : ℕ). point_by n s) (sym c.in-0.is) ∙ point-by s

pub returns-in-1 : goal.returns-in-1
unfolding point_by
returns-in-1 c = let s = c.args.c.now in c.byte_at-x.ensures ∙ ap (λ (n : ℕ). point_by n s) (sym c.in-1.is) ∙ point-by s

pub returns-in-2 : goal.returns-in-2
unfolding point_by
returns-in-2 c = let s = c.args.c.now in rw (c.byte_at-x.ensures, c.byte_at-y.ensures) (ap (λ (n : ℕ). point_by n s) (sym c.in-2.is) ∙ point-by s)

pub returns-in-3 : goal.returns-in-3
unfolding point_by
returns-in-3 c = let s = c.args.c.now in rw (c.byte_at-x.ensures, c.byte_at-y.ensures, c.byte_at-z.ensures) (ap (λ (n : ℕ). point_by n s) (sym c.in-3.is) ∙ point-by s)

pub returns-in_default : goal.returns-in_default
unfolding point_by
returns-in_default c = rw (c.byte_at-x.ensures, c.byte_at-y.ensures, c.byte_at-z.ensures, c.byte_at-w.ensures) (point-many c.args.c.now (omega arith))
