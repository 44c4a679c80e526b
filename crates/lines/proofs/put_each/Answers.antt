use Rattle.std.proofs.Common.{arith}
use Rattle.lines.proofs.OutLaws.{each-start, each-more}
use Rattle.lines.proofs.put_each.Goals as goal

pub loop-j-init : goal.loop-j-init
loop-j-init c = each-start c.args.out.now c.args.o (omega arith)

pub loop-j-preserved : goal.loop-j-preserved
loop-j-preserved c = each-more c.args.t.now c.args.o c.loop-j.j c.requires c.loop-j-test.true c.loop-j.invariant
