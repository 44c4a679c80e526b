use Rattle.phis.proofs.TableLaws.{stored_past, stored-read, stored-new}
use Rattle.phis.proofs.table.note_stored.Goals as goal

pub returns-then-table-v : goal.returns-then-table-v
returns-then-table-v c = let a = c.args in stored_past a.own.now a.table.now a.phi.0 _ c.slot-v.ensures c.if-table-v.true

pub returns-then-table-v-eq2 : goal.returns-then-table-v-eq2
returns-then-table-v-eq2 c = let a = c.args in stored-read a.own.now a.table.now a.phi.0 _ c.slot-v.ensures c.if-table-v-eq2.true

pub returns : goal.returns
returns c = let a = c.args in stored-new a.own.now a.table.now a.phi.0 _ c.slot-v.ensures c.if-table-v-eq2.false
