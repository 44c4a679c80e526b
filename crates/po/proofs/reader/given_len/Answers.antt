use native.Mathlib.Omega.{arith}
use mathlib.Core.Path.{sym, ap}
use lib.ListN.{length}
use Rattle.lines.proofs.Counts.{part-short}
use Rattle.po.specs.Found.{decoded}
use Rattle.po.proofs.UnitLaws.{text-le}
use Rattle.po.proofs.StateLaws.{packed-length, gives-5, gives-6, gives_none}
use Rattle.po.proofs.reader.given_len.Goals as goal

pub overflow_add-result : goal.overflow_add-result
overflow_add-result c = let z = ap length c.cut.ensures in omega (arith, c.plain_len.ensures, text-le c.cut.result.now 34, part-short c.args.l.now 7 (length c.args.l.now))

pub returns-then-w-eq5 : goal.returns-then-w-eq5
returns-then-w-eq5 c = let a = c.args in let g = ap length (gives-5 a.w a.l.now c.cut.result.now c.if-w-eq5.true c.cut.ensures) in omega (arith, packed-length (decoded c.cut.result.now 34), c.plain_len.ensures)

pub overflow_add-result-then-w-eq6 : goal.overflow_add-result-then-w-eq6
overflow_add-result-then-w-eq6 c = let z = ap length c.cut-then-w-eq6.ensures in omega (arith, c.plain_len-then-w-eq6.ensures, text-le c.cut-then-w-eq6.result.now 34, part-short c.args.l.now 8 (length c.args.l.now))

pub returns-then-w-eq6 : goal.returns-then-w-eq6
returns-then-w-eq6 c = let a = c.args in let g = ap length (gives-6 a.w a.l.now c.cut-then-w-eq6.result.now c.if-w-eq6.true c.cut-then-w-eq6.ensures) in omega (arith, packed-length (decoded c.cut-then-w-eq6.result.now 34), c.plain_len-then-w-eq6.ensures)

pub returns : goal.returns
returns c = let a = c.args in sym (ap length (gives_none a.w a.l.now c.if-w-eq5.false c.if-w-eq6.false))
