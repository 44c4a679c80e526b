use mathlib.Core.Path.{sym, ap, ◌∙◌}
use Rattle.std.specs.declared.option.Option.{Option}
use Rattle.names.specs.declared.Register.{Register}
use Rattle.bind.specs.Inner.Index.{read_name}
use Rattle.bind.proofs.IndexLaws.{no_front}
use Rattle.bind.proofs.index.read_name.Goals as goal

pub returns-then-byte_at-ne114 : goal.returns-then-byte_at-ne114
returns-then-byte_at-ne114 c = let a = c.args in no_front a.own.now a.b a.t.now a.first.now _ c.byte_at.ensures c.if-byte_at-ne114.true

pub returns-in-Some : goal.returns-in-Some
returns-in-Some c = let a = c.args in c.read_reg.ensures ∙ sym (ap (λ (r : Option Register). read_name a.own.now a.b r a.first.now) (sym c.reg_name.ensures ∙ c.in-Some.is))

pub returns-in-None : goal.returns-in-None
returns-in-None c = let a = c.args in sym (ap (λ (r : Option Register). read_name a.own.now a.b r a.first.now) (sym c.reg_name.ensures ∙ c.in-None.is))
