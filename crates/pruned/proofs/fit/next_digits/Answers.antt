use mathlib.Core.Path.{ap, ◌∙◌}
use Rattle.lines.specs.Lf.{part}
use Rattle.lines.proofs.LfLaws.{rest_of}
use Rattle.pruned.proofs.fit.next_digits.Goals as goal

pub returns : goal.returns
returns c = c.cut.ensures ∙ ap (part 3 c.args.n) (c.cut-q.ensures ∙ rest_of c.args.p.now c.args.j)
