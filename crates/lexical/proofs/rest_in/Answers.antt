use Rattle.lexical.proofs.rest_in.Goals as goal

pub returns-then-not-joined : goal.returns-then-not-joined
returns-then-not-joined c = rw c.if-not-joined.true

pub returns : goal.returns
returns c = rw (c.if-not-joined.false) (λ i. record { from = c.taken_by-from.ensures i; below = c.open_below.ensures i })
