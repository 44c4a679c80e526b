use Prim.Native.Nat.{◌+◌}
use mathlib.Core.Path.{◌≡◌}
use lib.ListN.{drop}
use Rattle.words.specs.Inner.Runs.{run_len}
use Rattle.words.proofs.run_end.Given as goal

abbrev pub invariant-loop-j : goal.invariant-loop-j
invariant-loop-j l = l.j + run_len (drop l.j l.s) ≡ l.i + run_len (drop l.i l.s)
