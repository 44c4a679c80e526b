use mathlib.Core.List.{[], ◌∷◌}
use mathlib.Core.Path.{ap, ◌∙◌}
use Rattle.lines.specs.Lf.{same}
use Rattle.lines.proofs.LfLaws.{rest_of}
use Rattle.pruned.proofs.fit.ends_here.Goals as goal

pub returns : goal.returns
returns c = let s = c.args in c.same.ensures ∙ ap (same (59 ∷ [])) (c.cut.ensures ∙ rest_of s.p.now s.j)
