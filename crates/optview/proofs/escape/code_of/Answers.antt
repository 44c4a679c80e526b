use Rattle.optview.proofs.Showing.{code_one, code-two, code-three}
use Rattle.optview.proofs.escape.code_of.Goals as goal

pub returns-then-n-eq1 : goal.returns-then-n-eq1
returns-then-n-eq1 c = code_one c.args.s.now c.args.n _ _ _ c.byte_at-a.ensures c.byte_at-b.ensures c.byte_at-c.ensures c.if-n-eq1.true

pub returns-then-n-eq2 : goal.returns-then-n-eq2
returns-then-n-eq2 c = code-two c.args.s.now c.args.n _ _ _ c.byte_at-a.ensures c.byte_at-b.ensures c.byte_at-c.ensures c.if-n-eq1.false c.if-n-eq2.true

pub returns : goal.returns
returns c = code-three c.args.s.now c.args.n _ _ _ c.byte_at-a.ensures c.byte_at-b.ensures c.byte_at-c.ensures c.if-n-eq1.false c.if-n-eq2.false
