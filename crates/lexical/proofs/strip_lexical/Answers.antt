use native.Mathlib.Omega.{arith}
use Rattle.lines.proofs.OutLaws.{wrote-length}
use Rattle.lexical.proofs.LexLaws.{lex-on, strip-start, strip-fits, strip-next, strip-end}
use Rattle.lexical.proofs.PlainLaws.{strip-to, strip-room, strip-plain}
use Rattle.lexical.proofs.strip_lexical.Goals as goal

pub no_tail-tail-requires : goal.no_tail-tail-requires
no_tail-tail-requires c = tt

pub loop-i-init : goal.loop-i-init
loop-i-init c = let a = c.args in strip-start a.s.now a.out.now a.o _ c.requires c.no_tail-tail.ensures

pub plain_end-j-requires : goal.plain_end-j-requires
plain_end-j-requires c = tt

pub slice_bounds-put-count : goal.slice_bounds-put-count
slice_bounds-put-count c = omega (arith, c.if-i-j.true)

pub slice_bounds-put-start : goal.slice_bounds-put-start
slice_bounds-put-start c = omega (arith, c.if-i-j.true)

pub slice_bounds-put-end : goal.slice_bounds-put-end
slice_bounds-put-end c = omega (arith, strip-to c.loop-i.invariant c.plain_end-j.result c.plain_end-j.ensures)

pub put-p-requires : goal.put-p-requires
put-p-requires c = strip-room c.loop-i.invariant c.plain_end-j.result c.plain_end-j.ensures

pub run_tail-tail-requires : goal.run_tail-tail-requires
run_tail-tail-requires c = c.plain_end-j.ensures

pub loop-i-smaller-then-i-j : goal.loop-i-smaller-then-i-j
loop-i-smaller-then-i-j c = omega (arith, c.if-i-j.true, strip-to c.loop-i.invariant c.plain_end-j.result c.plain_end-j.ensures)

pub loop-i-preserved-then-i-j : goal.loop-i-preserved-then-i-j
loop-i-preserved-then-i-j c = strip-plain c.loop-i.invariant c.plain_end-j.result c.plain_end-j.ensures c.run_tail-tail.result _ _ c.run_tail-tail.ensures c.put-p.ensures

pub step_at-step-requires : goal.step_at-step-requires
step_at-step-requires c = tt

pub put_left-p-requires : goal.put_left-p-requires
put_left-p-requires c = strip-fits c.loop-i.invariant c.step_at-step.result c.step_at-step.ensures c.loop-i-test.true

pub loop-i-smaller : goal.loop-i-smaller
loop-i-smaller c = let r = c.step_at-step in let m = lex-on c.loop-i.invariant.lex r.result r.ensures c.loop-i-test.true in omega arith

pub loop-i-preserved : goal.loop-i-preserved
loop-i-preserved c = let r = c.step_at-step in strip-next c.loop-i.invariant r.result r.ensures c.loop-i-test.true _ _ c.put_left-p.ensures

pub shape_of-out : goal.shape_of-out
shape_of-out c = wrote-length c.loop-i.invariant.wrote

pub returns : goal.returns
returns c = strip-end c.loop-i.invariant c.loop-i-test.false
