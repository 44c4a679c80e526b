use Prim.Native.Nat.{◌+◌, ◌≤◌}
use mathlib.Core.Path.{◌≡◌}
use lib.ListN.{length}
use Rattle.expr.specs.Pure.{is_pure, pure_by, quoted_in}
use Rattle.expr.specs.Inner.Pure.{purity_cut}
use Rattle.expr.proofs.WalkLaws.{walk}
use Rattle.expr.proofs.+elements_purity_cut.Given as goal

abbrev pub decreases-elements : goal.decreases-elements
decreases-elements l = length l.s.now + length l.s.now + 1

abbrev pub decreases-purity_cut : goal.decreases-purity_cut
decreases-purity_cut l = length l.s.now + length l.s.now

abbrev pub invariant-elements-loop-i : goal.invariant-elements-loop-i
invariant-elements-loop-i l = record {
  began : l.start ≤ l.i;
  inside : l.i ≤ length l.s;
  opened_le : l.opened ≤ l.i;
  closed_le : l.closed ≤ l.i;
  walked : pure_by (purity_cut (quoted_in l.strict)) l.s ≡ walk (λ e. is_pure (purity_cut (quoted_in l.strict) e)) l.s l.start l.i l.opened l.closed;
}
