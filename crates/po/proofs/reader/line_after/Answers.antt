use native.Mathlib.Omega.{arith}
use mathlib.Core.Path.{refl, ap}
use lib.ListN.{length}
use Rattle.lines.proofs.Counts.{part-short}
use Rattle.po.proofs.StateLaws.{at_ref, at_other}
use Rattle.po.proofs.LineLaws.{colon-le}
use Rattle.po.proofs.reader.line_after.Goals as goal

pub overflow_add-c : goal.overflow_add-c
overflow_add-c c = let a = c.args in let z = ap length c.cut-l.ensures in omega (arith, c.requires.end_in_bounds, c.last_colon-c.ensures, colon-le c.cut-l.result.now (length c.cut-l.result.now), part-short a.file.now a.r.at a.r.end)

pub overflow_add-result-then-r-eq4 : goal.overflow_add-result-then-r-eq4
overflow_add-result-then-r-eq4 c = let a = c.args in let z = ap length c.cut-l.ensures in omega (arith, c.requires.at.inside, c.requires.end_in_bounds, c.last_colon-c.ensures, colon-le c.cut-l.result.now (length c.cut-l.result.now), part-short a.file.now a.r.at a.r.end)

pub returns-then-r-eq4 : goal.returns-then-r-eq4
returns-then-r-eq4 c =
    record { at_2 = at_ref c.requires.at c.requires.end_in_bounds _ _ c.find_byte-end.ensures c.next_awaited-awaits.ensures c.if-r-eq4.true _ c.cut-l.ensures _ c.last_colon-c.ensures _ c.cut.ensures _ c.number_in-least.ensures; number_value = (refl, refl) }

pub returns : goal.returns
returns c =
    record { at_2 = at_other c.requires.at c.requires.end_in_bounds _ _ c.find_byte-end.ensures c.next_awaited-awaits.ensures c.if-r-eq4.false; number_value = (refl, refl) }
