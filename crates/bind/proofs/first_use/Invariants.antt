use Prim.Native.Nat.{◌+◌, ◌≤◌}
use mathlib.Core.Path.{◌≡◌}
use lib.ListN.{drop}
use Rattle.lines.specs.Lf.{lines_of}
use Rattle.bind.specs.Inner.Steps.{use_row}
use Rattle.lines.proofs.EachLaws.{Over}
use Rattle.bind.proofs.first_use.Given as goal

abbrev pub invariant-loop-line : goal.invariant-loop-line
invariant-loop-line l = let it = l.line-iterator in Over l.text it × ((l.k ≤ it.at) × ((l.k + use_row l.reg.0 (lines_of (drop it.at l.text)) ≡ use_row l.reg.0 (lines_of l.text)) × (lines_of (drop it.at l.text) ≡ drop l.k (lines_of l.text))))
