use native.Mathlib.Omega.{arith}
use lib.ListN.{length}
use Rattle.po.proofs.LineLaws.{next-no, next-by, colon-le}
use Rattle.po.proofs.reader.is_next.Goals as goal

pub returns-then-not-is_kept : goal.returns-then-not-is_kept
returns-then-not-is_kept c = let a = c.args in next-no a.name.now a.least a.l.now _ c.last_colon-c.ensures _ c.cut.ensures _ c.is_kept.ensures (c.if-not-is_kept.true)

pub overflow_add-c : goal.overflow_add-c
overflow_add-c c = let a = c.args in omega (arith, c.last_colon-c.ensures, colon-le a.l.now (length a.l.now))

pub returns : goal.returns
returns c = let a = c.args in next-by a.name.now a.least a.l.now _ c.last_colon-c.ensures _ c.cut.ensures _ c.is_kept.ensures (c.if-not-is_kept.false) _ c.cut-2.ensures _ c.number_in.ensures
