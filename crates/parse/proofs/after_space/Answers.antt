use native.Mathlib.Omega.{arith}
use mathlib.Core.Path.{sym, ◌∙◌}
use lib.ListN.{get_or}
use borrow.Author.Tests.{eq-eqb, ne_eqb}
use Rattle.parse.proofs.Plain.{inside}
use Rattle.parse.proofs.after_space.Goals as goal

pub overflow_add-result : goal.overflow_add-result
overflow_add-result c = let a = c.args in omega (arith, inside a.s.now a.i (λ z. absurd (omega (arith, c.byte_at.ensures, c.if-byte_at-eq32.true))))

pub returns-then-byte_at-eq32 : goal.returns-then-byte_at-eq32
returns-then-byte_at-eq32 c = let a = c.args in rw (eq-eqb (get_or a.s.now a.i 0) 32 (sym c.byte_at.ensures ∙ c.if-byte_at-eq32.true))

pub returns : goal.returns
returns c = let a = c.args in rw (ne_eqb (get_or a.s.now a.i 0) 32 (λ z. c.if-byte_at-eq32.false (c.byte_at.ensures ∙ z)))
