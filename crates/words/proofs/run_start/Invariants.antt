use Prim.Native.Nat.{◌+◌}
use mathlib.Core.Path.{◌≡◌}
use lib.ListN.{drop}
use Rattle.words.specs.Inner.Runs.{gap_len}
use Rattle.words.proofs.run_start.Given as goal

abbrev pub invariant-loop-j : goal.invariant-loop-j
invariant-loop-j l = l.j + gap_len (drop l.j l.s) ≡ l.i + gap_len (drop l.i l.s)
