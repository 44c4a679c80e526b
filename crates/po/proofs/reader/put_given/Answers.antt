use native.Mathlib.Omega.{arith}
use mathlib.Core.Path.{ap, sym}
use lib.ListN.{length}
use Rattle.lines.proofs.OutLaws.{wrote_as, wrote-nil}
use Rattle.po.proofs.StateLaws.{gives-5, gives-6, gives_none}
use Rattle.po.proofs.reader.put_given.Goals as goal

pub put_packed-requires : goal.put_packed-requires
put_packed-requires c = let a = c.args in let g = ap length (gives-5 a.w a.l.now c.cut.result.now c.if-w-eq5.true c.cut.ensures) in omega (arith, c.requires)

pub returns-then-w-eq5 : goal.returns-then-w-eq5
returns-then-w-eq5 c = let a = c.args in wrote_as (gives-5 a.w a.l.now c.cut.result.now c.if-w-eq5.true c.cut.ensures) c.put_packed.ensures

pub put_packed-requires-then-w-eq6 : goal.put_packed-requires-then-w-eq6
put_packed-requires-then-w-eq6 c = let a = c.args in let g = ap length (gives-6 a.w a.l.now c.cut-then-w-eq6.result.now c.if-w-eq6.true c.cut-then-w-eq6.ensures) in omega (arith, c.requires)

pub returns-then-w-eq6 : goal.returns-then-w-eq6
returns-then-w-eq6 c = let a = c.args in wrote_as (gives-6 a.w a.l.now c.cut-then-w-eq6.result.now c.if-w-eq6.true c.cut-then-w-eq6.ensures) c.put_packed-then-w-eq6.ensures

pub returns : goal.returns
returns c = let a = c.args in let g = gives_none a.w a.l.now c.if-w-eq5.false c.if-w-eq6.false in let z = ap length g in wrote_as (sym g) (wrote-nil a.out.now a.o (omega (arith, c.requires)))
