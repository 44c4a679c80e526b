use Rattle.std.proofs.Common.{sym, refl, ◌∙◌, arith}
use Rattle.lines.proofs.Counts.{over-start, over_none}
use Rattle.lines.proofs.crowded_line.Goals as goal

pub returns-then-count_byte-most : goal.returns-then-count_byte-most
returns-then-count_byte-most c = let a = c.args in sym (over_none a.most 91 refl refl a.text.now (omega (arith, c.if-count_byte-most.true, c.count_byte.ensures)))

pub returns : goal.returns
returns c = let a = c.args in c.first_over.ensures ∙ over-start a.most 91 refl a.text.now
