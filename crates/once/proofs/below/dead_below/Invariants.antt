use mathlib.Core.Path.{◌≡◌}
use lib.ListN.{drop}
use Rattle.lines.specs.Lf.{lines_of}
use Rattle.once.specs.Inner.Tables.{next_in}
use Rattle.lines.proofs.EachLaws.{Over}
use Rattle.once.proofs.below.dead_below.Given as goal

abbrev pub invariant-loop-line : goal.invariant-loop-line
invariant-loop-line l = let it = l.line-iterator in Over l.text it × (next_in l.reg.0 (lines_of (drop it.at l.text)) (drop l.k l.paths) ≡ next_in l.reg.0 (lines_of l.text) l.paths)
