use mathlib.Core.Path.{◌≡◌}
use lib.ListN.{drop}
use Rattle.lines.specs.Lf.{lines_of}
use Rattle.once.specs.Inner.Tables.{any_call}
use Rattle.lines.proofs.EachLaws.{Over}
use Rattle.once.proofs.any_call.Given as goal

abbrev pub invariant-loop-line : goal.invariant-loop-line
invariant-loop-line l = let it = l.line-iterator in Over l.text it × (any_call l.x (lines_of (drop it.at l.text)) ≡ any_call l.x (lines_of l.text))
