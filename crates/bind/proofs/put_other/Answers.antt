use native.Mathlib.Omega.{arith}
use mathlib.Core.Path.{sym, ap}
use mathlib.Core.List.{[], ◌∷◌, ◌++◌}
use lib.ListN.{length}
use Rattle.lines.proofs.OutLaws.{wrote_as, writing-put, writing-end}
use Rattle.decls.proofs.PrintLaws.{writing-fits}
use Rattle.bind.proofs.SiteLaws.{other-marked, plain-writing}
use Rattle.bind.proofs.put_other.Goals as goal

pub put_promoted-requires : goal.put_promoted-requires
put_promoted-requires c = let a = c.args in
    omega (arith, c.requires, ap length (other-marked a.line.now a.m c.if-m-eq1.true))

pub returns-then-m-eq1 : goal.returns-then-m-eq1
returns-then-m-eq1 c = let a = c.args in
    wrote_as (sym (other-marked a.line.now a.m c.if-m-eq1.true)) c.put_promoted.ensures

pub put-p-requires : goal.put-p-requires
put-p-requires c = let a = c.args in
    writing-fits a.line.now (10 ∷ [] ++ []) (plain-writing a.line.now a.m c.if-m-eq1.false a.out.now a.o c.requires)

pub put_byte-requires : goal.put_byte-requires
put_byte-requires c = let a = c.args in
    omega (arith, writing-fits (10 ∷ []) [] (writing-put (plain-writing a.line.now a.m c.if-m-eq1.false a.out.now a.o c.requires) c.put-p.ensures))

pub returns : goal.returns
returns c = let a = c.args in
    writing-end (writing-put (writing-put (plain-writing a.line.now a.m c.if-m-eq1.false a.out.now a.o c.requires) c.put-p.ensures) c.put_byte.ensures)
