use Prim.Native.Nat.{◌≤◌, ◌-◌}
use lib.ListN.{length, drop}
use Rattle.lines.proofs.OutLaws.{Writing}
use Rattle.expr.specs.Pure.{cut_in}
use Rattle.expr.proofs.ModeLaws.{left}
use Rattle.expr.proofs.strip.Given as goal

abbrev pub invariant-loop-i : goal.invariant-loop-i
invariant-loop-i l = (l.i ≤ length l.s) × Writing l.o (cut_in l.strict l.s) (left l.strict (drop l.i l.s) l.inside) l.initial.out l.out l.n

abbrev pub decreases-loop-i : goal.decreases-loop-i
decreases-loop-i l = length l.s - l.i
