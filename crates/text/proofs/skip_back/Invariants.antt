use mathlib.Core.Path.{◌≡◌}
use Prim.Native.Nat.{◌≤◌}
use lib.ListN.{length}
use Rattle.text.specs.Trim.{end_white, to_of}
use Rattle.text.proofs.skip_back.Given as goal

abbrev pub invariant-loop-e : goal.invariant-loop-e
invariant-loop-e l = (l.e ≤ length l.s) × (end_white l.s 0 l.e ≡ to_of l.s)

abbrev pub decreases-loop-e : goal.decreases-loop-e
decreases-loop-e l = l.e
