use mathlib.Core.Path.{ap, ◌∙◌}
use mathlib.Core.List.{[], ◌∷◌}
use Rattle.lines.specs.Lf.{holds}
use Rattle.text.proofs.Trims.{rest_of}
use Rattle.lexical.proofs.comment_shut.Goals as goal

pub returns : goal.returns
returns c = let a = c.args in c.contains.ensures ∙ ap (holds (42 ∷ 47 ∷ [])) (c.cut.ensures ∙ rest_of a.s.now a.i)
