use Rattle.std.proofs.Common.{◌+◌, ap, ◌∙◌, arith}
use Rattle.trails.proofs.Loops.{goes_to, goes-few, goes-past, goes-here, goes_none}
use Rattle.trails.proofs.sent.Goals as goal
use Rattle.trails.proofs.sent.Goals.{then-m-eq0, else-m-eq0}

pub returns-then-below-d : goal.returns-then-below-d
returns-then-below-d c = goes-few c.args.below.now c.args.d c.if-below-d.true

pub loop-j-preserved : goal.loop-j-preserved
loop-j-preserved c =
    let s = c.args.below.now in
    let l = c.loop-j in
    elim c.if-m-eq0.branch [
      | then-m-eq0 w ↦ ap (goes_to s (l.j + 1)) w.c-is ∙ goes-here s l.j c.loop-j-test.true l.c (omega arith) w.if-m-eq0.true ∙ l.invariant
      | else-m-eq0 w ↦ ap (goes_to s (l.j + 1)) w.c-is ∙ goes-past s l.j c.loop-j-test.true l.c (omega arith) w.if-m-eq0.false ∙ l.invariant
    ]

pub returns : goal.returns
returns c = goes_none c.args.below.now c.loop-j.j c.loop-j.c c.loop-j-test.false (omega arith) ∙ c.loop-j.invariant
