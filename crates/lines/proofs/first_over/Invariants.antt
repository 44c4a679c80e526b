use Rattle.std.proofs.Common.{◌≡◌, ◌≤◌, drop}
use Rattle.lines.specs.Lf.{lines_of}
use Rattle.lines.specs.Steps.{over_from}
use Rattle.lines.proofs.EachLaws.{Over}
use Rattle.lines.proofs.first_over.Given as goal

abbrev pub invariant-loop-line : goal.invariant-loop-line
invariant-loop-line l = let it = l.line-iterator in (Over l.text it) × ((l.n ≤ it.at) × (over_from l.most l.b l.n (lines_of (drop it.at l.text)) ≡ over_from l.most l.b 0 (lines_of l.text)))
