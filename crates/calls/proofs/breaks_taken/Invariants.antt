use Prim.Native.Nat.{◌≤◌}
use mathlib.Core.Path.{◌≡◌}
use lib.ListN.{length, drop}
use Rattle.lines.specs.Lf.{lines_of}
use Rattle.lexical.specs.Idents.{words_in}
use Rattle.forms.specs.Breaks.{breaks_with}
use Rattle.calls.specs.Inner.Steps.{breaks_down}
use Rattle.lines.proofs.EachLaws.{Over}
use Rattle.calls.proofs.breaks_taken.Given as goal

abbrev pub invariant-loop-line : goal.invariant-loop-line
invariant-loop-line l = let it = l.line-iterator in Over l.text it × ((l.j ≤ length l.owner) × (breaks_down (breaks_with l.value (words_in l.clean)) (lines_of (drop it.at l.text)) (drop l.j l.owner) ≡ breaks_down (breaks_with l.value (words_in l.clean)) (lines_of l.text) l.owner))
