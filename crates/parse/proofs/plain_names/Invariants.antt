use Prim.Native.Nat.{◌-◌, ◌<◌}
use mathlib.Core.Path.{◌≡◌}
use lib.ListN.{length, drop}
use Rattle.lines.specs.Lf.{parts_of}
use Rattle.parse.specs.Parse.{all_regs}
use Rattle.parse.specs.Inner.Parse.{without}
use Rattle.parse.proofs.plain_names.Given as goal

abbrev pub invariant-loop-i : goal.invariant-loop-i
invariant-loop-i l = (l.i < length l.t) × (all_regs (parts_of 44 (drop l.i (without l.t))) ≡ all_regs (parts_of 44 (drop l.a (without l.t))))

abbrev pub decreases-loop-i : goal.decreases-loop-i
decreases-loop-i l = length l.t - l.i
