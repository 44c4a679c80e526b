use mathlib.Core.Path.{sym, ap, ◌∙◌}
use Rattle.std.specs.declared.option.Option.{Option}
use Rattle.names.specs.declared.Register.{Register}
use Rattle.decls.specs.Inner.Seen.{mark_name}
use Rattle.bind.specs.Inner.Index.{again_name}
use Rattle.bind.proofs.index.see_name.Goals as goal

pub returns-in-Some : goal.returns-in-Some
returns-in-Some c =
    let a = c.args in
    record { marked = c.see_reg.ensures.marked ∙ sym (ap (λ (r : Option Register). mark_name a.own.now a.m r a.seen.now) (sym c.reg_name.ensures ∙ c.in-Some.is)); again = c.see_reg.ensures.again ∙ sym (ap (λ (r : Option Register). again_name a.own.now a.m a.b r a.seen.now a.first.now) (sym c.reg_name.ensures ∙ c.in-Some.is)) }

pub returns-in-None : goal.returns-in-None
returns-in-None c =
    let a = c.args in
    record { marked = sym (ap (λ (r : Option Register). mark_name a.own.now a.m r a.seen.now) (sym c.reg_name.ensures ∙ c.in-None.is)); again = sym (ap (λ (r : Option Register). again_name a.own.now a.m a.b r a.seen.now a.first.now) (sym c.reg_name.ensures ∙ c.in-None.is)) }
