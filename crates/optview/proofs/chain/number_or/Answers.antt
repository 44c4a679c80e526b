use Rattle.reader.proofs.ChainLaws.{link_here, link-nowhere}
use Rattle.optview.proofs.chain.number_or.Goals as goal

pub returns-then-i-numbers : goal.returns-then-i-numbers
returns-then-i-numbers c = (link_here c.args.numbers.now c.args.i 0 c.args.other c.if-i-numbers.true).0

pub returns-else-i-numbers : goal.returns-else-i-numbers
returns-else-i-numbers c = (link-nowhere c.args.numbers.now c.args.i 0 c.args.other c.if-i-numbers.false).0
