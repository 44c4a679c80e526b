use mathlib.Core.Path.{sym, ap, ◌∙◌}
use Rattle.std.specs.declared.option.Option.{Option}
use Rattle.names.specs.declared.Register.{Register}
use Rattle.calls.specs.Inner.Later.{read_name}
use Rattle.calls.proofs.later.note_name.Goals as goal

pub returns-in-Some : goal.returns-in-Some
returns-in-Some c = let a = c.args in c.note_read.ensures ∙ sym (ap (λ (r : Option Register). read_name a.own.now a.c a.h r a.near.now) (sym c.reg_name.ensures ∙ c.in-Some.is))

pub returns-in-None : goal.returns-in-None
returns-in-None c = let a = c.args in sym (ap (λ (r : Option Register). read_name a.own.now a.c a.h r a.near.now) (sym c.reg_name.ensures ∙ c.in-None.is))
