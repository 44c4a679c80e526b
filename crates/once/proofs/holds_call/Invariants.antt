use mathlib.Core.Path.{◌≡◌}
use mathlib.Core.List.{[], ◌∷◌, ◌++◌}
use lib.ListN.{drop}
use Rattle.lines.specs.Lf.{holds}
use Rattle.once.proofs.holds_call.Given as goal

abbrev pub invariant-loop-i : goal.invariant-loop-i
invariant-loop-i l = holds (l.x ++ 40 ∷ []) (drop l.i l.s) ≡ holds (l.x ++ 40 ∷ []) l.s
