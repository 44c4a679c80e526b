use Prim.Native.Nat.{ℕ, ◌-◌}
use mathlib.Core.List.{List}
use lib.ListN.{length}
use Rattle.names.specs.Names.{reg_of, reg_is}
use Rattle.words.proofs.RunLaws.{CountInv}
use Rattle.words.proofs.count_reg.Given as goal

abbrev pub invariant-loop-i : goal.invariant-loop-i
invariant-loop-i l = CountInv (λ (r : List ℕ). reg_is l.reg.0 (reg_of r)) l.s l.n l.i

abbrev pub decreases-loop-i : goal.decreases-loop-i
decreases-loop-i l = length l.s - l.i
