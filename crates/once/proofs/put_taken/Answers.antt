use mathlib.Core.Path.{sym, ◌∙◌}
use Rattle.lines.proofs.OutLaws.{wrote_as}
use Rattle.once.proofs.Writes.{fits-as, line-is, taken_as, taken-store}
use Rattle.once.proofs.put_taken.Goals as goal

pub put_line-requires : goal.put_line-requires
put_line-requires c = let a = c.args in fits-as a.o (line-is _ ∙ taken_as a.above.now a.line.now _ (sym c.in-Decl.is ∙ c.parse.ensures)) c.requires

pub put_into-requires : goal.put_into-requires
put_into-requires c = let a = c.args in fits-as a.o (taken-store a.above.now a.line.now c.in-Store.s _ c.value_of-x.ensures (sym c.in-Store.is ∙ c.parse.ensures)) c.requires

pub put_line-requires-in-Other : goal.put_line-requires-in-Other
put_line-requires-in-Other c = let a = c.args in fits-as a.o (line-is _ ∙ taken_as a.above.now a.line.now _ (sym c.in-Other.is ∙ c.parse.ensures)) c.requires

pub returns-in-Decl : goal.returns-in-Decl
returns-in-Decl c = let a = c.args in wrote_as (line-is _ ∙ taken_as a.above.now a.line.now _ (sym c.in-Decl.is ∙ c.parse.ensures)) c.put_line.ensures

pub returns-in-Store : goal.returns-in-Store
returns-in-Store c = let a = c.args in wrote_as (taken-store a.above.now a.line.now c.in-Store.s _ c.value_of-x.ensures (sym c.in-Store.is ∙ c.parse.ensures)) c.put_into.ensures

pub returns-in-Other : goal.returns-in-Other
returns-in-Other c = let a = c.args in wrote_as (line-is _ ∙ taken_as a.above.now a.line.now _ (sym c.in-Other.is ∙ c.parse.ensures)) c.put_line-in-Other.ensures
