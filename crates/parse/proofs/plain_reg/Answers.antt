use native.Mathlib.Omega.{arith}
use mathlib.Core.Path.{sym, ◌∙◌}
use Rattle.parse.proofs.Plain.{inside, plain_at, short-room, short-at}
use Rattle.parse.proofs.plain_reg.Goals as goal

pub overflow_add-result : goal.overflow_add-result
overflow_add-result c = let r = short-room c.args.s.now c.after_space-a.result (sym c.short_reg.ensures ∙ c.if-short_reg.true) in omega arith

pub returns-then-short_reg : goal.returns-then-short_reg
returns-then-short_reg c = let a = c.args in λ h. short-at a.s.now a.i c.after_space-a.result c.after_space-a.ensures (sym c.short_reg.ensures ∙ c.if-short_reg.true)

pub returns-then-byte_at-ne114 : goal.returns-then-byte_at-ne114
returns-then-byte_at-ne114 c = λ h. absurd (omega arith)

pub overflow_add-a : goal.overflow_add-a
overflow_add-a c = let s = c.args.s.now in omega (arith, inside s c.after_space-a.result (λ z. absurd (omega (arith, c.byte_at.ensures, c.if-byte_at-ne114.false))))

pub returns-then-e-a-lt2 : goal.returns-then-e-a-lt2
returns-then-e-a-lt2 c = λ h. absurd (omega arith)

pub returns-then-e-a-gt10 : goal.returns-then-e-a-gt10
returns-then-e-a-gt10 c = λ h. absurd (omega arith)

pub returns-then-e-s : goal.returns-then-e-s
returns-then-e-s c = let a = c.args in λ h. plain_at a.s.now a.i c.after_space-a.result c.digits_end-e.result c.after_space-a.ensures (sym c.byte_at.ensures ∙ c.if-byte_at-ne114.false) c.digits_end-e.ensures c.if-e-a-lt2.false c.if-e-a-gt10.false (λ k. absurd (omega arith))

pub returns-then-s-e-ne44 : goal.returns-then-s-e-ne44
returns-then-s-e-ne44 c = λ h. absurd (omega arith)

pub returns : goal.returns
returns c = let a = c.args in λ h. plain_at a.s.now a.i c.after_space-a.result c.digits_end-e.result c.after_space-a.ensures (sym c.byte_at.ensures ∙ c.if-byte_at-ne114.false) c.digits_end-e.ensures c.if-e-a-lt2.false c.if-e-a-gt10.false (λ k. c.if-s-e-ne44.false)
