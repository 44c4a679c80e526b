use mathlib.Core.Path.{sym, ◌∙◌}
use Rattle.place.proofs.Nests.{nest-same, nest-inner, nest-outer, nest-plain}
use Rattle.place.proofs.nest_open.Goals as goal

pub returns-then-not-ends_open : goal.returns-then-not-ends_open
returns-then-not-ends_open c = nest-same c.args.t.now c.args.d c.args.o (sym c.ends_open.ensures ∙ c.if-not-ends_open.true)

pub returns-then-o-ne0 : goal.returns-then-o-ne0
returns-then-o-ne0 c = nest-inner c.args.t.now c.args.d c.args.o (sym c.ends_open.ensures ∙ c.if-not-ends_open.false) c.if-o-ne0.true

pub returns-then-opens_loop : goal.returns-then-opens_loop
returns-then-opens_loop c = nest-outer c.args.t.now c.args.d c.args.o (sym c.ends_open.ensures ∙ c.if-not-ends_open.false) c.if-o-ne0.false (sym c.opens_loop.ensures ∙ c.if-opens_loop.true)

pub returns : goal.returns
returns c = nest-plain c.args.t.now c.args.d c.args.o (sym c.ends_open.ensures ∙ c.if-not-ends_open.false) c.if-o-ne0.false (sym c.opens_loop.ensures ∙ c.if-opens_loop.false)
