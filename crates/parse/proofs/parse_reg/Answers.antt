use native.Mathlib.Omega.{arith}
use mathlib.Core.Path.{sym, ◌∙◌}
use Rattle.parse.proofs.Plain.{inside}
use Rattle.parse.proofs.PlainLine.{parse-bare, told-room, told-store}
use Rattle.parse.proofs.parse_reg.Goals as goal

pub overflow_add-a : goal.overflow_add-a
overflow_add-a c = omega (arith, inside c.args.line.now c.args.a (λ z. absurd (omega (arith, c.requires.1))))

pub returns-then-e-a-lt2 : goal.returns-then-e-a-lt2
returns-then-e-a-lt2 c = parse-bare c.args.line.now c.args.a c.digits_end-e.result c.requires.0 c.requires.1 c.digits_end-e.ensures c.if-e-a-lt2.true

pub overflow_add-result : goal.overflow_add-result
overflow_add-result c = let r = told-room c.args.line.now c.args.a c.digits_end-e.result _ (sym c.in-Some.is ∙ c.plain_store.ensures) in omega arith

pub overflow_sub-result : goal.overflow_sub-result
overflow_sub-result c = let r = told-room c.args.line.now c.args.a c.digits_end-e.result _ (sym c.in-Some.is ∙ c.plain_store.ensures) in omega arith

pub returns-in-Some : goal.returns-in-Some
returns-in-Some c = told-store c.args.line.now c.args.a c.digits_end-e.result _ (sym c.in-Some.is ∙ c.plain_store.ensures) c.requires.0 c.requires.1 c.digits_end-e.ensures

pub returns-in-Decl : goal.returns-in-Decl
returns-in-Decl c = sym c.in-Decl.is ∙ c.parse_any.ensures

pub returns-in-Store : goal.returns-in-Store
returns-in-Store c = sym c.in-Store.is ∙ c.parse_any.ensures

pub returns-in-Other : goal.returns-in-Other
returns-in-Other c = sym c.in-Other.is ∙ c.parse_any.ensures
