use Prim.Native.Nat.{ℕ, ◌+◌, ◌-◌}
use mathlib.Core.Path.{ap, ◌∙◌}
use native.Mathlib.Omega.{arith}
use borrow.Author.Tests.{eq-eqb, ne_eqb}
use lib.ListN.{length}
use Rattle.bind.specs.Inner.Sites.{stop_by}
use Rattle.bind.proofs.end_at.Goals as goal

pub returns-then-rec-c : goal.returns-then-rec-c
returns-then-rec-c c = let a = c.args in rw (eq-eqb a.rec.region.0 a.c.0 c.if-rec-c.true)

pub overflow_add-k : goal.overflow_add-k
overflow_add-k c = omega (arith, c.requires.0, c.ranges.n)

pub after-requires : goal.after-requires
after-requires c = tt

pub stop_by-requires : goal.stop_by-requires
stop_by-requires c = c.requires.1

pub returns : goal.returns
returns c = let a = c.args in rw (ne_eqb a.rec.region.0 a.c.0 c.if-rec-c.false) (c.stop_by.ensures ∙ ap (λ (x : ℕ). stop_by a.ends.now (length a.text.now) (a.n - (a.k + 1)) (a.k + 1) x) c.after.ensures)
