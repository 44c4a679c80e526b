use mathlib.Core.Path.{sym, ap, ◌∙◌}
use Rattle.parse.specs.Parse.{text_of}
use Rattle.parse.proofs.text_of.Goals as goal

pub returns-in-Decl : goal.returns-in-Decl
unfolding text_of
returns-in-Decl c = c.cut.ensures ∙ sym (ap (text_of c.args.line.now) c.in-Decl.is)

pub returns-in-Store : goal.returns-in-Store
unfolding text_of
returns-in-Store c = c.value_of.ensures ∙ sym (ap (text_of c.args.line.now) c.in-Store.is)

pub returns-in-Other : goal.returns-in-Other
unfolding text_of
returns-in-Other c = sym (ap (text_of c.args.line.now) c.in-Other.is)
