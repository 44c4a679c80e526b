use Prim.Native.Nat.{ℕ}
use mathlib.Core.Path.{ap}
use lib.ListN.{set}
use Rattle.decls.proofs.SeenLaws.{entry_past}
use Rattle.calls.proofs.later.enter.Goals as goal

pub returns-then-table-v : goal.returns-then-table-v
returns-then-table-v c = let a = c.args in entry_past a.own.now a.table.now a.reg.0 a.x _ c.slot-v.ensures c.if-table-v.true

pub returns : goal.returns
returns c = let a = c.args in ap (λ (k : ℕ). set a.table.now k a.x) c.slot-v.ensures
