use Prim.Native.Nat.{◌-◌}
use lib.ListN.{length}
use Rattle.lexical.proofs.WordLaws.{WordInv}
use Rattle.lexical.proofs.next_word.Given as goal

abbrev pub invariant-loop-j : goal.invariant-loop-j
invariant-loop-j l = WordInv l.t l.i l.a l.j

abbrev pub decreases-loop-j : goal.decreases-loop-j
decreases-loop-j l = length l.t - l.j
