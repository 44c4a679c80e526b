use mathlib.Core.Path.{sym, ap, ◌∙◌}
use Rattle.std.specs.declared.option.Option.{Option}
use Rattle.names.specs.declared.Phi.{Phi}
use Rattle.phis.specs.Inner.Table.{note_store}
use Rattle.phis.proofs.table.note_store.Goals as goal

pub returns-in-Some : goal.returns-in-Some
returns-in-Some c = c.note_stored.ensures ∙ sym (ap (λ (n : Option Phi). note_store c.args.own.now n c.args.table.now) c.in-Some.is)
