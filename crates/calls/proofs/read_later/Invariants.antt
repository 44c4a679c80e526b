use mathlib.Core.Path.{◌≡◌}
use lib.ListN.{drop}
use Rattle.lines.specs.Lf.{lines_of}
use Rattle.reading.specs.Reading.{plain}
use Rattle.calls.specs.LeavesOf.{leaves_of}
use Rattle.calls.specs.Calls.{read_later}
use Rattle.lines.proofs.EachLaws.{Over}
use Rattle.calls.proofs.read_later.Given as goal

abbrev pub invariant-loop-line : goal.invariant-loop-line
invariant-loop-line l = let it = l.line-iterator in (Over l.below it) × (read_later (leaves_of plain) l.reg.0 (lines_of (drop it.at l.below)) ≡ read_later (leaves_of plain) l.reg.0 (lines_of l.below))
