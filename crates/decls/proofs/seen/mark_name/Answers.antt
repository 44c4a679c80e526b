use mathlib.Core.Path.{ap, ◌∙◌}
use Rattle.std.specs.declared.option.Option.{Option}
use Rattle.names.specs.declared.Register.{Register}
use Rattle.decls.specs.Inner.Seen.{mark_name}
use Rattle.decls.proofs.seen.mark_name.Goals as goal

pub returns-in-Some : goal.returns-in-Some
returns-in-Some c = let a = c.args in c.mark_reg.ensures ∙ ap (λ (r : Option Register). mark_name a.own.now a.m r a.seen.now) c.in-Some.ensures

pub returns-in-None : goal.returns-in-None
returns-in-None c = let a = c.args in ap (λ (r : Option Register). mark_name a.own.now a.m r a.seen.now) c.in-None.ensures
