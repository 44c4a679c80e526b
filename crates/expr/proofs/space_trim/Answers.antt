use mathlib.Core.Path.{sym, ap, ◌∙◌}
use lib.Seq.{length-take-le}
use Rattle.lines.proofs.LfLaws.{rest_of}
use Rattle.expr.specs.Pure.{space_end, space_trim}
use Rattle.expr.proofs.space_trim.Goals as goal

pub slice_bounds-result-end : goal.slice_bounds-result-end
slice_bounds-result-end c = sym (length-take-le _ _ c.space_to-e.ensures.0)

pub returns : goal.returns
unfolding space_trim
returns c = let p = c.space_from-a in c.space_to-e.ensures.1 ∙ ap space_end (rest_of c.args.s.now p.result ∙ p.ensures.1)
