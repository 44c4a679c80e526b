use Rattle.std.proofs.Common.{ℕ, sym, ap}
use Rattle.std.specs.declared.option.Option.{Option}
use Rattle.temps.specs.Inner.Table.{flag_by}
use Rattle.temps.proofs.TableLaws.{by-here, by-past}
use Rattle.temps.proofs.table.flag_of.Goals as goal

pub returns-then-v-table : goal.returns-then-v-table
returns-then-v-table c = let a = c.args in by-here a.own.now a.key a.table.now _ c.in-Some.is c.slot-v.ensures c.if-v-table.true

pub returns-else-v-table : goal.returns-else-v-table
returns-else-v-table c = let a = c.args in by-past a.own.now a.key a.table.now _ c.in-Some.is c.slot-v.ensures c.if-v-table.false

pub returns-in-None : goal.returns-in-None
returns-in-None c = let a = c.args in sym (ap (λ (r : Option ℕ). flag_by a.own.now r a.table.now) c.in-None.is)
