use Prim.Native.Nat.{◌+◌, ◌-◌, ◌≤◌}
use mathlib.Core.Path.{◌≡◌}
use lib.ListN.{length, drop}
use Rattle.origins.specs.Inner.Codes.{standing}
use Rattle.origins.proofs.count_standing.Given as goal

abbrev pub invariant-loop-i : goal.invariant-loop-i
invariant-loop-i l = (l.n ≤ l.i) × ((l.i ≤ length l.moves) × (l.n + standing (drop l.i l.moves) ≡ standing l.moves))

abbrev pub decreases-loop-i : goal.decreases-loop-i
decreases-loop-i l = length l.moves - l.i
