use Prim.Native.Nat.{◌+◌}
use mathlib.Core.Path.{◌≡◌}
use lib.ListN.{drop}
use Rattle.lines.proofs.EachLaws.{Over}
use Rattle.place.specs.Inner.Region.{up_header, region_len}
use Rattle.place.proofs.region_end.Given as goal

abbrev pub invariant-loop-line : goal.invariant-loop-line
invariant-loop-line l = let it = l.line-iterator in Over l.text it × (it.at + up_header 0 (drop it.at l.text) ≡ l.i + region_len (drop l.i l.text))
