use mathlib.Core.Path.{sym, ◌∙◌}
use Rattle.expr.proofs.QuoteLaws.{closed-other, closed-long, closed_is}
use Rattle.expr.proofs.is_closed.Goals as goal

pub returns-then-not-q : goal.returns-then-not-q
returns-then-not-q c = sym (closed-other c.args.t.now c.byte_at-q.result c.byte_at-q.ensures c.if-not-q.true)

pub returns-then-quote_end-t : goal.returns-then-quote_end-t
returns-then-quote_end-t c = sym (closed-long c.args.t.now c.byte_at-q.result c.byte_at-q.ensures c.quote_end.result c.quote_end.ensures c.if-quote_end-t.true)

pub returns : goal.returns
returns c = c.quote_shut.ensures ∙ sym (closed_is c.args.t.now c.byte_at-q.result c.byte_at-q.ensures c.if-not-q.false c.quote_end.result c.quote_end.ensures c.if-quote_end-t.false)
