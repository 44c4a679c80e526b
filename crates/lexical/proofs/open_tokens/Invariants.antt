use Prim.Native.Nat.{◌-◌}
use lib.ListN.{length}
use Rattle.lexical.proofs.JoinedLaws.{OpenInv}
use Rattle.lexical.proofs.open_tokens.Given as goal

abbrev pub invariant-loop-i : goal.invariant-loop-i
invariant-loop-i l = OpenInv l.s l.i l.tail

abbrev pub decreases-loop-i : goal.decreases-loop-i
decreases-loop-i l = length l.s - l.i
