use Prim.Native.Nat.{◌-◌, ◌+◌}
use mathlib.Core.Path.{◌≡◌}
use lib.ListN.{length, drop}
use Rattle.po.specs.Found.{odds}
use Rattle.po.specs.Answers.{odd_flaw}
use Rattle.po.proofs.first_odd.Given as goal

abbrev pub invariant-loop-i : goal.invariant-loop-i
invariant-loop-i l = odd_flaw (odds (drop l.i l.s) l.q (l.a + l.i)) ≡ odd_flaw (odds l.s l.q l.a)

abbrev pub decreases-loop-i : goal.decreases-loop-i
decreases-loop-i l = length l.s - l.i
