use mathlib.Core.Path.{sym, ap, ◌∙◌}
use mathlib.Core.Bool.{Bool, ◌||◌}
use Rattle.place.specs.Inner.Loops.{starts_loop}
use Rattle.place.proofs.loop_by.Goals as goal

pub returns : goal.returns
returns c = c.starts_loop.ensures ∙ sym (ap (λ (b : Bool). b || starts_loop c.args.line.now) c.if-seen.false)
