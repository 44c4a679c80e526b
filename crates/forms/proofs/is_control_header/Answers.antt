use mathlib.Core.Path.{sym, ap, ◌∙◌}
use mathlib.Core.Bool.{Bool, ◌||◌}
use mathlib.Core.List.{[], ◌∷◌}
use Rattle.lines.specs.Ascii.{ascii}
use Rattle.lines.specs.Lf.{holds}
use Rattle.forms.proofs.Ors.{ors, control-is}
use Rattle.forms.proofs.is_control_header.Goals as goal

pub returns-then-begins_control : goal.returns-then-begins_control
returns-then-begins_control c = sym (control-is c.args.t.now ∙ ap (λ (b : Bool). b || (holds (ascii ": while (") c.args.t.now || (holds (ascii ": for (") c.args.t.now || holds (ascii "} else if (") c.args.t.now))) (sym c.begins_control.ensures ∙ c.if-begins_control.true))

pub returns : goal.returns
returns c = ors c.contains.result (c.contains-2.result ∷ c.contains-3.result ∷ []) ∙ rw (c.contains.ensures, c.contains-2.ensures, c.contains-3.ensures) (sym (control-is c.args.t.now ∙ ap (λ (b : Bool). b || (holds (ascii ": while (") c.args.t.now || (holds (ascii ": for (") c.args.t.now || holds (ascii "} else if (") c.args.t.now))) (sym c.begins_control.ensures ∙ c.if-begins_control.false)))
