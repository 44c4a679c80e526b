use mathlib.Core.Path.{sym, ap, ◌∙◌}
use Rattle.std.specs.declared.option.Option.{Option}
use Rattle.names.specs.declared.Phi.{Phi}
use Rattle.phis.specs.Inner.Table.{note_name}
use Rattle.phis.proofs.table.note_run.Goals as goal

pub returns-in-Some : goal.returns-in-Some
returns-in-Some c = let a = c.args in c.note_read.ensures ∙ sym (ap (λ (n : Option Phi). note_name a.own.now a.stored a.r.now n a.table.now) (sym c.phi_name.ensures ∙ c.in-Some.is))

pub returns-in-None : goal.returns-in-None
returns-in-None c = let a = c.args in sym (ap (λ (n : Option Phi). note_name a.own.now a.stored a.r.now n a.table.now) (sym c.phi_name.ensures ∙ c.in-None.is))
