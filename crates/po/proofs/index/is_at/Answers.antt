use Prim.Native.Nat.{ℕ, ◌+◌}
use mathlib.Core.Path.{ap, ◌∙◌}
use mathlib.Core.List.{List}
use lib.ListN.{drop}
use Rattle.lines.specs.Lf.{same}
use Rattle.lines.proofs.LfLaws.{rest_of}
use Rattle.po.specs.Found.{decoded}
use Rattle.po.proofs.index.is_at.Goals as goal

pub returns : goal.returns
returns c =
    let a = c.args in
    c.same_text.ensures
    ∙ ap (λ (l : List ℕ). same (decoded l c.byte_at.result) (decoded a.s.now a.q)) (c.cut.ensures ∙ rest_of a.t.now (a.p + 1))
    ∙ ap (λ (b : ℕ). same (decoded (drop (a.p + 1) a.t.now) b) (decoded a.s.now a.q)) c.byte_at.ensures
