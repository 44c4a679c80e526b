use Prim.Native.Nat.{◌-◌}
use lib.ListN.{length}
use Rattle.bind.proofs.IndexLaws.{ReadInv}
use Rattle.bind.proofs.index.read_runs.Given as goal

abbrev pub invariant-loop-i : goal.invariant-loop-i
invariant-loop-i l = ReadInv l.own l.b l.s l.initial.first l.first l.i

abbrev pub decreases-loop-i : goal.decreases-loop-i
decreases-loop-i l = length l.s - l.i
