use Prim.Native.Nat.{ℕ}
use mathlib.Core.Path.{ap, ◌∙◌}
use mathlib.Core.List.{List}
use Rattle.lines.specs.Lf.{same}
use Rattle.lines.proofs.LfLaws.{rest_of}
use Rattle.po.specs.Found.{decoded}
use Rattle.po.proofs.StateLaws.{same-id-yes, same-id-no}
use Rattle.po.proofs.reader.is_same_id.Goals as goal

pub returns-then-w-eq5 : goal.returns-then-w-eq5
returns-then-w-eq5 c = let a = c.args in same-id-yes a.w a.l.now (decoded a.s.now 34) _ c.if-w-eq5.true (c.same_text.ensures ∙ ap (λ (x : List ℕ). same (decoded x 34) (decoded a.s.now 34)) (c.cut.ensures ∙ rest_of a.l.now 7))

pub returns : goal.returns
returns c = let a = c.args in same-id-no a.w a.l.now (decoded a.s.now 34) c.if-w-eq5.false
