use mathlib.Core.Path.{sym, ap, ◌∙◌}
use mathlib.Core.Bool.{not}
use Rattle.lexical.proofs.JoinedLaws.{template-other, template-is}
use Rattle.lexical.proofs.opens_template.Goals as goal

pub returns-then-s-i-ne96 : goal.returns-then-s-i-ne96
returns-then-s-i-ne96 c = let a = c.args in sym (template-other a.s.now a.i c.if-s-i-ne96.true)

pub returns : goal.returns
returns c = let a = c.args in ap not c.quote_shut.ensures ∙ sym (template-is a.s.now a.i c.if-s-i-ne96.false)
