use Prim.Native.Nat.{◌-◌}
use lib.ListN.{length}
use Rattle.lexical.proofs.LexLaws.{StripInv}
use Rattle.lexical.proofs.strip_lexical.Given as goal

abbrev pub invariant-loop-i : goal.invariant-loop-i
invariant-loop-i l = StripInv l.s l.initial.out l.o l.out l.p l.i l.tail

abbrev pub decreases-loop-i : goal.decreases-loop-i
decreases-loop-i l = length l.s - l.i
