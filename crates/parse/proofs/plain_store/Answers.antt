use native.Mathlib.Omega.{arith}
use mathlib.Core.Path.{sym, ◌∙◌, ap}
use mathlib.Core.Bool.{Bool, cond}
use Rattle.names.specs.Names.{reg_of}
use Rattle.std.specs.declared.option.Option.TheVariants.{None}
use Rattle.lines.specs.Lf.{part}
use Rattle.parse.proofs.PlainLine.{value_room}
use Rattle.parse.proofs.plain_store.Goals as goal

pub returns-then-not-plain_value : goal.returns-then-not-plain_value
returns-then-not-plain_value c = let a = c.args in sym (ap (λ (b : Bool). cond b (reg_of (part a.a a.e a.line.now)) None) (sym c.plain_value.ensures ∙ c.if-not-plain_value.true))

pub slice_bounds-reg_name-end : goal.slice_bounds-reg_name-end
slice_bounds-reg_name-end c = let l = c.args.line.now in let r = value_room c.args.e l (sym c.plain_value.ensures ∙ c.if-not-plain_value.false) in omega arith

pub returns : goal.returns
returns c = let a = c.args in c.reg_name.ensures ∙ sym (ap (λ (b : Bool). cond b (reg_of (part a.a a.e a.line.now)) None) (sym c.plain_value.ensures ∙ c.if-not-plain_value.false))
