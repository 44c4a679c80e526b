use mathlib.Core.Path.{sym, ap, ◌∙◌}
use Rattle.reading.proofs.UseLaws.{stores-of}
use Rattle.reading.specs.Uses.{stores_by}
use Rattle.bind.proofs.stores_reg.Goals as goal

pub returns-in-Decl : goal.returns-in-Decl
returns-in-Decl c = let a = c.args in
    sym (ap (stores_by a.reg.0) c.in-Decl.is) ∙ stores-of a.reg.0 a.line.now c.parse.result c.parse.ensures

pub returns-in-Store : goal.returns-in-Store
returns-in-Store c = let a = c.args in
    sym (ap (stores_by a.reg.0) c.in-Store.is) ∙ stores-of a.reg.0 a.line.now c.parse.result c.parse.ensures

pub returns-in-Other : goal.returns-in-Other
returns-in-Other c = let a = c.args in
    sym (ap (stores_by a.reg.0) c.in-Other.is) ∙ stores-of a.reg.0 a.line.now c.parse.result c.parse.ensures
