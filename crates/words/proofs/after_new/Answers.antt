use mathlib.Core.Path.{ap, ◌∙◌}
use Rattle.lines.specs.Lf.{suffixed}
use Rattle.text.specs.Trim.{trim_end}
use Rattle.words.specs.Hits.{new_word, after_new}
use Rattle.words.proofs.Glue.{front-part}
use Rattle.words.proofs.after_new.Goals as goal

pub returns : goal.returns
unfolding after_new
returns c = let a = c.args in
    c.ends_with.ensures ∙ ap (suffixed new_word) (c.trim_end.ensures ∙ ap (λ l. trim_end l) (c.cut.ensures ∙ front-part a.line.now a.from))
