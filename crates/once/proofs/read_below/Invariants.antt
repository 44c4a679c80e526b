use mathlib.Core.Path.{◌≡◌}
use lib.ListN.{drop}
use Rattle.lines.specs.Lf.{lines_of}
use Rattle.once.specs.Inner.Tables.{read_below}
use Rattle.lines.proofs.EachLaws.{Over}
use Rattle.once.proofs.read_below.Given as goal

abbrev pub invariant-loop-line : goal.invariant-loop-line
invariant-loop-line l = let it = l.line-iterator in Over l.text it × (read_below l.far l.reg.0 (lines_of (drop it.at l.text)) ≡ read_below l.far l.reg.0 (lines_of l.text))
