use Prim.Native.Nat.{ℕ}
use mathlib.Core.Path.{ap, ◌∙◌}
use native.Mathlib.Omega.{arith}
use lib.Dec.{eqb}
use lib.ListN.{get_or}
use Rattle.phis.proofs.dead_phi.Goals as goal

pub returns-then-v-table : goal.returns-then-v-table
returns-then-v-table c = let a = c.args in ap (λ (k : ℕ). eqb (get_or a.table.now k 0) 1) c.slot-v.ensures ∙ c.requires a.phi.0 (omega arith) (omega (arith, c.slot-v.ensures, c.if-v-table.true))
