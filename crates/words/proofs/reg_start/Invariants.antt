use Prim.Native.Nat.{◌+◌}
use mathlib.Core.Path.{◌≡◌}
use mathlib.Core.Bool.{false}
use lib.ListN.{drop}
use Rattle.words.specs.Inner.Runs.{reg_gap, after_name}
use Rattle.words.proofs.reg_start.Given as goal

abbrev pub invariant-loop-j : goal.invariant-loop-j
invariant-loop-j l = l.j + reg_gap (after_name l.i l.j l.s) (drop l.j l.s) ≡ l.i + reg_gap false (drop l.i l.s)
