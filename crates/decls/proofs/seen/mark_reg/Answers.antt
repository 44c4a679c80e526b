use Prim.Native.Nat.{ℕ}
use mathlib.Core.Path.{ap}
use lib.ListN.{set}
use Rattle.decls.proofs.SeenLaws.{entry_past}
use Rattle.decls.proofs.seen.mark_reg.Goals as goal

pub returns-then-seen-v : goal.returns-then-seen-v
returns-then-seen-v c = let a = c.args in entry_past a.own.now a.seen.now a.reg.0 a.m _ c.slot-v.ensures c.if-seen-v.true

pub returns : goal.returns
returns c = let a = c.args in ap (λ (k : ℕ). set a.seen.now k a.m) c.slot-v.ensures
