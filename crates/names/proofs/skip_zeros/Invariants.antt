use Prim.Native.Nat.{◌+◌}
use mathlib.Core.Path.{◌≡◌}
use lib.ListN.{drop}
use Rattle.names.specs.Inner.Names.{zeros}
use Rattle.names.proofs.skip_zeros.Given as goal

abbrev pub invariant-loop-i : goal.invariant-loop-i
invariant-loop-i l = l.i + zeros (drop l.i l.s) ≡ zeros l.s
