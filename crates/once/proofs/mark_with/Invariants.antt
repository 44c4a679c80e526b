use Prim.Native.Nat.{◌-◌}
use mathlib.Core.Path.{◌≡◌}
use lib.ListN.{length, drop}
use Rattle.lines.specs.Lf.{lines_of}
use Rattle.reading.specs.Reading.{reading_of}
use Rattle.once.specs.Inner.Tables.{Zeroed}
use Rattle.once.proofs.AreaLaws.{AreaInv}
use Rattle.once.proofs.Fills.{lines_at, MarksInv}
use Rattle.once.proofs.mark_with.Given as goal

abbrev pub invariant-loop-i : goal.invariant-loop-i
invariant-loop-i l =
    (l.scratch ≡ l.initial.scratch)
    × (Zeroed (length l.text) l.scratch × (MarksInv (reading_of l.mode.0) l.text l.paths l.loops l.initial.marks l.marks l.i l.k l.run × ((lines_of (drop l.i l.text) ≡ drop l.k (lines_of l.text)) × AreaInv (lines_of l.text) l.k (lines_at l.text l.run))))

abbrev pub decreases-loop-i : goal.decreases-loop-i
decreases-loop-i l = length l.text - l.i
