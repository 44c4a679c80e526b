use Rattle.temps.proofs.TableLaws.{flag-here, flag-past}
use Rattle.temps.proofs.table.flag_at.Goals as goal

pub returns-then-table-v : goal.returns-then-table-v
returns-then-table-v c = let a = c.args in flag-past a.own.now a.n a.table.now c.slot-v.ensures c.if-table-v.true

pub returns : goal.returns
returns c = let a = c.args in flag-here a.own.now a.n a.table.now c.slot-v.ensures
