use Rattle.std.proofs.Common.{sym, ap, ◌∙◌, arith}
use Rattle.po.specs.Inner.Index.{hash_of}
use Rattle.po.proofs.index.hash_text.Goals as goal

pub overflow_mul-h : goal.overflow_mul-h
overflow_mul-h c = omega (arith, c.loop-b.invariant.0)

pub overflow_add-h : goal.overflow_add-h
overflow_add-h c = omega (arith, c.loop-b.invariant.0)

pub loop-b-preserved : goal.loop-b-preserved
unfolding hash_of
loop-b-preserved c = let l = c.loop-b in (omega arith, sym (ap (hash_of l.h) c.in-Some.ensures.steps.1) ∙ l.invariant.1)

pub returns : goal.returns
unfolding hash_of
returns c = let l = c.loop-b in sym (ap (hash_of l.h) c.in-None.ensures.steps.1) ∙ l.invariant.1
