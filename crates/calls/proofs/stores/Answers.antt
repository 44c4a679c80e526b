use mathlib.Core.Path.{sym, ◌∙◌}
use Rattle.parse.specs.declared.Line.TheVariants as line
use Rattle.calls.proofs.Notes.{stored-as}
use Rattle.calls.proofs.stores.Goals as goal

pub returns-in-Decl : goal.returns-in-Decl
returns-in-Decl c = stored-as c.args.line.now line.Decl (sym c.in-Decl.is ∙ c.parse.ensures) c.args.reg.0

pub returns-in-Store : goal.returns-in-Store
returns-in-Store c = stored-as c.args.line.now (line.Store c.in-Store.s) (sym c.in-Store.is ∙ c.parse.ensures) c.args.reg.0

pub returns-in-Other : goal.returns-in-Other
returns-in-Other c = stored-as c.args.line.now line.Other (sym c.in-Other.is ∙ c.parse.ensures) c.args.reg.0
