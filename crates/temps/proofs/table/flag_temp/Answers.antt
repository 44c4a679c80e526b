use Rattle.std.proofs.Common.{ℕ, ap, ◌∙◌}
use Rattle.std.specs.declared.option.Option.{Option}
use Rattle.temps.specs.Inner.Table.{flag_at}
use Rattle.temps.proofs.table.flag_temp.Goals as goal

pub returns-in-Some : goal.returns-in-Some
returns-in-Some c = let a = c.args in c.flag_at.ensures ∙ ap (λ (r : Option ℕ). flag_at a.own.now r a.table.now) c.in-Some.ensures

pub returns-in-None : goal.returns-in-None
returns-in-None c = let a = c.args in ap (λ (r : Option ℕ). flag_at a.own.now r a.table.now) c.in-None.ensures
