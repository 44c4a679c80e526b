use Prim.Native.Nat.{◌-◌, ◌≤◌}
use mathlib.Core.Path.{◌≡◌}
use lib.ListN.{length}
use Rattle.po.specs.Inner.Walk.{spots_from, Stands}
use Rattle.po.proofs.next_lit.Given as goal

abbrev pub invariant-loop-c : goal.invariant-loop-c
invariant-loop-c l = (Stands l.t l.c) × ((l.initial.c.at ≤ l.c.at) × (spots_from l.t l.initial.c ≡ spots_from l.t l.c))

abbrev pub decreases-loop-c : goal.decreases-loop-c
decreases-loop-c l = length l.t - l.c.at
