use Rattle.std.proofs.Common.{arith}
use Rattle.lines.proofs.Fills.{blocks-on, blocks-end}
use Rattle.lines.proofs.wipe_blocks.Goals as goal

pub loop-i-preserved : goal.loop-i-preserved
loop-i-preserved g c = let l = c.loop-i in blocks-on c.args.zero l.i c.args.most c.block_end-e.result c.args.s.now l.s c.fill.new.block c.loop-i-test.true l.auto.s c.block_end-e.ensures l.invariant c.fill.ensures

pub returns-2 : goal.returns-2
returns-2 g c = let l = c.loop-i in blocks-end c.args.zero l.i c.args.most c.block_end-e.result c.args.s.now l.s c.fill.new.block c.loop-i-test.true l.auto.s c.block_end-e.ensures l.invariant c.fill.ensures (omega arith)
