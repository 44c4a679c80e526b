use native.Mathlib.Omega.{arith}
use mathlib.Core.Path.{sym, ap}
use lib.ListN.{length}
use Rattle.lines.proofs.OutLaws.{wrote_as, wrote-nil}
use Rattle.decls.proofs.PrintLaws.{part_stays, part-goes}
use Rattle.decls.proofs.print.put_part.Goals as goal

pub put_name-requires : goal.put_name-requires
put_name-requires c = let s = c in let a = s.args in omega (arith, s.requires, ap length (part_stays a.indent.now a.some a.stays a.k a.t.now c.if-stays.true))

pub returns-then-stays : goal.returns-then-stays
returns-then-stays c = let a = c.args in wrote_as (sym (part_stays a.indent.now a.some a.stays a.k a.t.now c.if-stays.true)) c.put_name.ensures

pub returns : goal.returns
returns c = let s = c in let a = s.args in wrote_as (sym (part-goes a.indent.now a.some a.stays a.k a.t.now c.if-stays.false)) (wrote-nil a.out.now a.o (omega (arith, s.requires)))
