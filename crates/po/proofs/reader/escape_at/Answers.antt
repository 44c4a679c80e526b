use native.Mathlib.Omega.{arith}
use Prim.Native.Nat.{ℕ}
use mathlib.Core.Path.{refl, ap}
use Rattle.po.specs.Form.{escape}
use Rattle.po.proofs.LineLaws.{two_here, one-here}
use Rattle.po.proofs.reader.escape_at.Goals as goal

pub returns-in-10 : goal.returns-in-10
returns-in-10 c = let a = c.args in two_here a.l.now a.i a.b _ _ 110 c.byte_at-x.ensures c.byte_at-y.ensures refl (ap (λ (n : ℕ). escape n) c.in-10.is)

pub returns-in-9 : goal.returns-in-9
returns-in-9 c = let a = c.args in two_here a.l.now a.i a.b _ _ 116 c.byte_at-x.ensures c.byte_at-y.ensures refl (ap (λ (n : ℕ). escape n) c.in-9.is)

pub returns-in-34 : goal.returns-in-34
returns-in-34 c = let a = c.args in two_here a.l.now a.i a.b _ _ 34 c.byte_at-x.ensures c.byte_at-y.ensures refl (ap (λ (n : ℕ). escape n) c.in-34.is)

pub returns-in-92 : goal.returns-in-92
returns-in-92 c = let a = c.args in two_here a.l.now a.i a.b _ _ 92 c.byte_at-x.ensures c.byte_at-y.ensures refl (ap (λ (n : ℕ). escape n) c.in-92.is)

pub returns-in_default : goal.returns-in_default
returns-in_default c = let a = c.args in one-here a.l.now a.i a.b _ c.byte_at-x.ensures c.requires (omega arith) (omega arith) (omega arith) (omega arith)
