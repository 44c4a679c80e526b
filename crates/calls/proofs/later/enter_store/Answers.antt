use mathlib.Core.Path.{sym, ap, ◌∙◌}
use Rattle.parse.specs.declared.Line.{Line}
use Rattle.decls.specs.Inner.Seen.{mark_store}
use Rattle.calls.proofs.later.enter_store.Goals as goal

pub returns-in-Decl : goal.returns-in-Decl
returns-in-Decl c = let a = c.args in sym (ap (λ (p : Line). mark_store a.own.now a.x p a.table.now) c.in-Decl.is)

pub returns-in-Store : goal.returns-in-Store
returns-in-Store c = let a = c.args in c.enter.ensures ∙ sym (ap (λ (p : Line). mark_store a.own.now a.x p a.table.now) c.in-Store.is)

pub returns-in-Other : goal.returns-in-Other
returns-in-Other c = let a = c.args in sym (ap (λ (p : Line). mark_store a.own.now a.x p a.table.now) c.in-Other.is)
