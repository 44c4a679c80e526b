use mathlib.Core.Path.{sym, ◌∙◌}
use native.Mathlib.Omega.{arith}
use Rattle.lines.proofs.OutLaws.{writing_start, writing-as, writing-length, writing-end}
use Rattle.expr.proofs.CommentLaws.{two_fits, byte-room, byte_put}
use Rattle.expr.proofs.QuoteLaws.{quote-to}
use Rattle.expr.proofs.ModeLaws.{at-front, at-close, at-skip, at-open, at-line, at-copy, at-end, literal-room, literal-put}
use Rattle.expr.proofs.strip.Goals as goal

pub loop-i-init : goal.loop-i-init
loop-i-init c = (omega arith, rw at-front (writing_start _ _ _ c.requires))

-- a comment is closed here

pub bounds-out-n : goal.bounds-out-n
bounds-out-n c = byte-room c.loop-i.invariant.1 (at-close c.args.strict c.args.s.now c.loop-i.i c.if-inside.true (sym c.two_at.ensures ∙ c.if-two_at.true))

pub overflow_add-n : goal.overflow_add-n
overflow_add-n c = omega (arith, byte-room c.loop-i.invariant.1 (at-close c.args.strict c.args.s.now c.loop-i.i c.if-inside.true (sym c.two_at.ensures ∙ c.if-two_at.true)))

pub overflow_add-i : goal.overflow_add-i
overflow_add-i c = omega (arith, two_fits _ _ c.args.s.now c.loop-i.i (sym c.two_at.ensures ∙ c.if-two_at.true))

pub loop-i-preserved-then-two_at : goal.loop-i-preserved-then-two_at
loop-i-preserved-then-two_at c = (two_fits _ _ c.args.s.now c.loop-i.i (sym c.two_at.ensures ∙ c.if-two_at.true), byte_put c.loop-i.invariant.1 (at-close c.args.strict c.args.s.now c.loop-i.i c.if-inside.true (sym c.two_at.ensures ∙ c.if-two_at.true)))

pub loop-i-preserved-else-two_at : goal.loop-i-preserved-else-two_at
loop-i-preserved-else-two_at c = (omega arith, writing-as (at-skip c.args.strict c.args.s.now c.loop-i.i (omega arith) c.if-inside.true (sym c.two_at.ensures ∙ c.if-two_at.false)) c.loop-i.invariant.1)

pub slice_bounds-put-count : goal.slice_bounds-put-count
slice_bounds-put-count c = omega (arith, c.quote_end-e.ensures)

pub slice_bounds-put-start : goal.slice_bounds-put-start
slice_bounds-put-start c = omega (arith, c.quote_end-e.ensures)

pub slice_bounds-put-end : goal.slice_bounds-put-end
slice_bounds-put-end c = omega (arith, (quote-to c.args.s.now c.loop-i.i c.loop-i-test.true c.quote_end-e.result c.quote_end-e.ensures).1)

pub put-n-requires : goal.put-n-requires
put-n-requires c = literal-room c.args.strict c.args.s.now c.loop-i.i c.loop-i.inside c.loop-i.invariant.1 c.loop-i-test.true c.if-inside.false (sym c.opens_literal.ensures ∙ c.if-opens_literal.true) c.quote_end-e.result c.quote_end-e.ensures

pub loop-i-smaller-then-opens_literal : goal.loop-i-smaller-then-opens_literal
loop-i-smaller-then-opens_literal c = let k = quote-to c.args.s.now c.loop-i.i c.loop-i-test.true c.quote_end-e.result c.quote_end-e.ensures in omega (arith, k.0, k.1)

pub loop-i-preserved-then-opens_literal : goal.loop-i-preserved-then-opens_literal
loop-i-preserved-then-opens_literal c = ((quote-to c.args.s.now c.loop-i.i c.loop-i-test.true c.quote_end-e.result c.quote_end-e.ensures).1, literal-put c.args.strict c.args.s.now c.loop-i.i c.loop-i.inside c.loop-i.invariant.1 c.loop-i-test.true c.if-inside.false (sym c.opens_literal.ensures ∙ c.if-opens_literal.true) c.quote_end-e.result c.quote_end-e.ensures c.put-n.ensures)

pub overflow_add-i-then-two_at-2 : goal.overflow_add-i-then-two_at-2
overflow_add-i-then-two_at-2 c = omega (arith, two_fits _ _ c.args.s.now c.loop-i.i (sym c.two_at-else-opens_literal.ensures ∙ c.if-two_at-2.true))

pub loop-i-preserved-then-two_at-2 : goal.loop-i-preserved-then-two_at-2
loop-i-preserved-then-two_at-2 c = let t = sym c.two_at-else-opens_literal.ensures ∙ c.if-two_at-2.true in (two_fits _ _ c.args.s.now c.loop-i.i t, writing-as (at-open c.args.strict c.args.s.now c.loop-i.i c.if-inside.false (sym c.opens_literal.ensures ∙ c.if-opens_literal.false) t) c.loop-i.invariant.1)

pub shape_of-out-then-two_at-3 : goal.shape_of-out-then-two_at-3
shape_of-out-then-two_at-3 c = writing-length c.loop-i.invariant.1

pub returns-then-two_at-3 : goal.returns-then-two_at-3
returns-then-two_at-3 c = writing-end (writing-as (at-line c.args.strict c.args.s.now c.loop-i.i c.if-inside.false (sym c.opens_literal.ensures ∙ c.if-opens_literal.false) (sym c.two_at-else-opens_literal.ensures ∙ c.if-two_at-2.false) (sym c.two_at-else-two_at-2.ensures ∙ c.if-two_at-3.true)) c.loop-i.invariant.1)

-- no literal and no comment begins here, and the byte is copied

pub bounds-out-n-else-two_at-3 : goal.bounds-out-n-else-two_at-3
bounds-out-n-else-two_at-3 c = byte-room c.loop-i.invariant.1 (at-copy c.args.strict c.args.s.now c.loop-i.i (omega arith) c.if-inside.false (sym c.opens_literal.ensures ∙ c.if-opens_literal.false) (sym c.two_at-else-opens_literal.ensures ∙ c.if-two_at-2.false) (sym c.two_at-else-two_at-2.ensures ∙ c.if-two_at-3.false))

pub overflow_add-n-else-two_at-3 : goal.overflow_add-n-else-two_at-3
overflow_add-n-else-two_at-3 c = omega (arith, byte-room c.loop-i.invariant.1 (at-copy c.args.strict c.args.s.now c.loop-i.i (omega arith) c.if-inside.false (sym c.opens_literal.ensures ∙ c.if-opens_literal.false) (sym c.two_at-else-opens_literal.ensures ∙ c.if-two_at-2.false) (sym c.two_at-else-two_at-2.ensures ∙ c.if-two_at-3.false)))

pub loop-i-preserved : goal.loop-i-preserved
loop-i-preserved c = (omega arith, byte_put c.loop-i.invariant.1 (at-copy c.args.strict c.args.s.now c.loop-i.i (omega arith) c.if-inside.false (sym c.opens_literal.ensures ∙ c.if-opens_literal.false) (sym c.two_at-else-opens_literal.ensures ∙ c.if-two_at-2.false) (sym c.two_at-else-two_at-2.ensures ∙ c.if-two_at-3.false)))

pub shape_of-out : goal.shape_of-out
shape_of-out c = writing-length c.loop-i.invariant.1

pub returns : goal.returns
returns c = writing-end (writing-as (at-end _ _ _ _ c.loop-i-test.false) c.loop-i.invariant.1)
