use Prim.Native.Nat.{ℕ, ◌+◌}
use native.Mathlib.Omega.{arith}
use mathlib.Core.Path.{sym, ap, ◌∙◌}
use borrow.Author.Tests.{leb-true}
use lib.Dec.{leb}
use lib.ListN.{get_or}
use Rattle.lines.proofs.Tests.{and_left}
use Rattle.text.specs.Class.{is_name}
use Rattle.names.specs.Names.{is_digit}
use Rattle.parse.proofs.Plain.{inside, digit-test}
use Rattle.decls.proofs.MarkRuns.{name-inside, run-other, run-bare, digit-name, mark-none, mark-held, mark-free, mark-short}
use Rattle.decls.proofs.seen.mark_at.Goals as goal

pub returns-then-byte_at-ne114 : goal.returns-then-byte_at-ne114
returns-then-byte_at-ne114 c = let a = c.args in mark-none a.own.now a.m a.s.now a.seen.now a.i (run-other a.s.now a.i (λ z. c.if-byte_at-ne114.true (c.byte_at.ensures ∙ z)))

pub overflow_add-i : goal.overflow_add-i
overflow_add-i c = let a = c.args in omega (arith, inside a.s.now a.i (λ z. absurd (omega (arith, c.byte_at.ensures, c.if-byte_at-ne114.false))))

pub returns-then-d : goal.returns-then-d
returns-then-d c = let a = c.args in mark-none a.own.now a.m a.s.now a.seen.now a.i (run-bare a.s.now a.i (sym c.byte_at.ensures ∙ c.if-byte_at-ne114.false) (ap (λ (x : ℕ). is_digit x) (sym c.byte_at-d.ensures) ∙ digit-test c.byte_at-d.result _ c.if-d.true))

pub returns-then-name_before : goal.returns-then-name_before
returns-then-name_before c = let a = c.args in mark-held a.own.now a.m a.s.now a.seen.now a.i (sym c.name_before.ensures ∙ c.if-name_before.true)

pub overflow_add-i-2 : goal.overflow_add-i-2
overflow_add-i-2 c = let a = c.args in omega (arith, name-inside a.s.now (a.i + 1) (digit-name (get_or a.s.now (a.i + 1) 0) (ap (λ (x : ℕ). is_digit x) (sym c.byte_at-d.ensures) ∙ digit-test c.byte_at-d.result _ c.if-d.false)))

pub overflow_sub-d : goal.overflow_sub-d
overflow_sub-d c = let d = c.byte_at-d.result in leb-true 48 d (and_left (leb 48 d) (leb d 57) (digit-test d _ c.if-d.false))

pub returns-then-not-is_name_byte : goal.returns-then-not-is_name_byte
returns-then-not-is_name_byte c = let a = c.args in mark-short a.own.now a.m a.s.now a.seen.now a.i _ c.byte_at-d.result (sym c.name_before.ensures ∙ c.if-name_before.false) (sym c.byte_at.ensures ∙ c.if-byte_at-ne114.false) c.byte_at-d.ensures (digit-test c.byte_at-d.result _ c.if-d.false) (ap (λ (x : ℕ). is_name x) (sym c.byte_at-2.ensures) ∙ sym c.is_name_byte.ensures ∙ c.if-not-is_name_byte.true) c.mark_reg.ensures

pub mark_run-requires : goal.mark_run-requires
mark_run-requires c = (ap (λ (x : ℕ). is_name x) (sym c.byte_at.ensures ∙ c.if-byte_at-ne114.false), digit-name (get_or c.args.s.now (c.args.i + 1) 0) (ap (λ (x : ℕ). is_digit x) (sym c.byte_at-d.ensures) ∙ digit-test c.byte_at-d.result _ c.if-d.false))

pub returns : goal.returns
returns c = let a = c.args in mark-free a.own.now a.m a.s.now a.seen.now a.i _ (sym c.name_before.ensures ∙ c.if-name_before.false) c.mark_run.ensures
