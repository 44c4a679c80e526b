use Prim.Native.Nat.{◌-◌, ◌≤◌}
use mathlib.Core.Path.{◌≡◌}
use lib.ListN.{length, drop}
use Rattle.lines.specs.Lf.{parts_of}
use Rattle.parse.specs.Parse.{all_regs}
use Rattle.parse.proofs.all_regs.Given as goal

abbrev pub invariant-loop-i : goal.invariant-loop-i
invariant-loop-i l = (l.i ≤ length l.s) × (all_regs (parts_of 44 (drop l.i l.s)) ≡ all_regs (parts_of 44 l.s))

abbrev pub decreases-loop-i : goal.decreases-loop-i
decreases-loop-i l = length l.s - l.i
