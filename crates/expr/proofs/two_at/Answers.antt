use native.Mathlib.Omega.{arith}
use mathlib.Core.Path.{sym}
use mathlib.Core.List.{[], ◌∷◌}
use lib.ListN.{drop, length-drop}
use Rattle.lines.proofs.LfLaws.{short}
use Rattle.expr.proofs.CommentLaws.{two_here}
use Rattle.expr.proofs.two_at.Goals as goal

pub returns-then-s-i : goal.returns-then-s-i
returns-then-s-i c = let a = c.args in sym (short (a.x ∷ a.y ∷ []) (drop a.i a.s.now) (simp length-drop (omega arith)))

pub returns-then-s-j : goal.returns-then-s-j
returns-then-s-j c = let a = c.args in sym (short (a.x ∷ a.y ∷ []) (drop a.i a.s.now) (simp length-drop (omega arith)))

pub returns : goal.returns
returns c = let a = c.args in sym (two_here a.x a.y a.s.now a.i (omega arith))
