use mathlib.Core.Path.{sym, ap, ◌∙◌}
use mathlib.Core.Bool.{not}
use Rattle.steps.proofs.Idling.{idle-0, idle-1, idle-3, idle-else}
use Rattle.steps.proofs.idle.Goals as goal

pub returns-then-k-eq0 : goal.returns-then-k-eq0
returns-then-k-eq0 c = c.lacks.ensures ∙ sym (idle-0 c.args.k c.args.src.now c.if-k-eq0.true)

pub returns-then-k-eq1 : goal.returns-then-k-eq1
returns-then-k-eq1 c = ap not c.has_temp.ensures ∙ sym (idle-1 c.args.k c.args.src.now c.if-k-eq1.true)

pub returns-then-k-eq3 : goal.returns-then-k-eq3
returns-then-k-eq3 c = ap not c.holds_phi.ensures ∙ sym (idle-3 c.args.k c.args.src.now c.if-k-eq3.true)

pub returns : goal.returns
returns c = sym (idle-else c.args.k c.args.src.now c.if-k-eq0.false c.if-k-eq1.false c.if-k-eq3.false)
