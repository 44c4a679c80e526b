use Prim.Native.Nat.{ℕ, ◌-◌}
use mathlib.Core.List.{List}
use lib.ListN.{length}
use Rattle.lines.specs.Lf.{same}
use Rattle.names.specs.Names.{phi_text}
use Rattle.words.proofs.RunLaws.{CountInv}
use Rattle.words.proofs.count_phi.Given as goal

abbrev pub invariant-loop-i : goal.invariant-loop-i
invariant-loop-i l = CountInv (λ (r : List ℕ). same r (phi_text l.phi.0)) l.s l.n l.i

abbrev pub decreases-loop-i : goal.decreases-loop-i
decreases-loop-i l = length l.s - l.i
