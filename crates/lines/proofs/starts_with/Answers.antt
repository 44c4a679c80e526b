use Rattle.std.proofs.Common.{drop, sym, ap, ◌∙◌, arith, drop_of_length-le}
use Rattle.lines.specs.Lf.{prefixed}
use Rattle.lines.proofs.LfLaws.{short, same_at, differ-at}
use Rattle.lines.proofs.starts_with.Goals as goal

pub returns-then-s-p : goal.returns-then-s-p
returns-then-s-p c = sym (short _ _ c.if-s-p.true)

pub returns-then-p-i : goal.returns-then-p-i
returns-then-p-i c = sym (differ-at _ _ _ c.loop-i-test.true (omega arith) c.if-p-i.true) ∙ c.loop-i.invariant

pub loop-i-preserved : goal.loop-i-preserved
loop-i-preserved c = sym (same_at _ _ _ c.loop-i-test.true (omega arith) c.if-p-i.false) ∙ c.loop-i.invariant

pub returns : goal.returns
unfolding prefixed
returns c = sym (ap (λ l. prefixed l (drop c.loop-i.i c.args.s.now)) (drop_of_length-le c.args.p.now c.loop-i-test.false)) ∙ c.loop-i.invariant
