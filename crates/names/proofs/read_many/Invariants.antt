use mathlib.Core.Path.{◌≡◌}
use Prim.Native.Nat.{◌<◌, ◌^◌}
use lib.ListN.{drop}
use Rattle.names.specs.Names.{numbered, read_number}
use Rattle.names.proofs.read_many.Given as goal

abbrev pub invariant-loop-d : goal.invariant-loop-d
invariant-loop-d l = (l.v < 2 ^ 64) × (numbered l.v (drop l.d-index l.s) ≡ read_number l.s)
