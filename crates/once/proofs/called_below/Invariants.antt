use mathlib.Core.Path.{◌≡◌}
use lib.ListN.{drop}
use Rattle.lines.specs.Lf.{lines_of}
use Rattle.once.specs.Scratch.{called_below}
use Rattle.lines.proofs.EachLaws.{Over}
use Rattle.once.proofs.called_below.Given as goal

abbrev pub invariant-loop-line : goal.invariant-loop-line
invariant-loop-line l = let it = l.line-iterator in Over l.text it × (called_below l.x (lines_of (drop it.at l.text)) ≡ called_below l.x (lines_of l.text))
