use Rattle.std.proofs.Common.{arith}
use Rattle.lines.proofs.LfLaws.{count-here, count-on, count-end}
use Rattle.lines.proofs.count_few.Goals as goal
use Rattle.lines.proofs.count_few.Goals.{then-x-b, else-x-b}

pub loop-x-preserved : goal.loop-x-preserved
loop-x-preserved c =
    let a = c.args in
    let i = c.loop-x.x-index in
    elim c.if-x-b.branch [
      | then-x-b w ↦ let h = count-here a.b a.s.now i c.loop-x-test.true w.if-x-b.true in (omega arith, omega arith)
      | else-x-b w ↦ let h = count-on a.b a.s.now i c.loop-x-test.true w.if-x-b.false in (omega arith, omega arith)
    ]

pub returns : goal.returns
returns c = omega (arith, count-end c.args.b c.args.s.now c.loop-x.x-index c.loop-x-test.false)
