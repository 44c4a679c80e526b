use Rattle.std.proofs.Common.{arith}
use Rattle.lines.proofs.LfLaws.{find-le}
use Rattle.lines.proofs.each.LinesIterator.next.Goals as goal

pub slice_bounds-result-end : goal.slice_bounds-result-end
slice_bounds-result-end c = omega (arith, find-le 10 c.args.self.now.text.now c.args.self.now.at c.find_byte-to.result (omega (arith, c.if-from-text.false)) c.find_byte-to.ensures)
