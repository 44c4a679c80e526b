use Prim.Native.Nat.{◌+◌, ◌≤◌, min}
use mathlib.Core.Path.{◌≡◌}
use lib.ListN.{drop}
use Rattle.lines.specs.Lf.{lines_of}
use Rattle.bind.specs.Bind.{store_count}
use Rattle.lines.proofs.EachLaws.{Over}
use Rattle.bind.proofs.count_stores.Given as goal

abbrev pub invariant-loop-line : goal.invariant-loop-line
invariant-loop-line l = let it = l.line-iterator in Over l.text it × ((l.m ≤ 2) × ((min (l.m + store_count l.reg.0 (lines_of (drop it.at l.text))) 2 ≡ min (l.n + store_count l.reg.0 (lines_of l.text)) 2)))
