use mathlib.Core.Path.{sym, ap}
use mathlib.Core.List.{[], ◌∷◌}
use mathlib.Core.Bool.{true, false}
use native.Mathlib.Omega.{arith}
use lib.ListN.{length, length-append}
use Rattle.lines.proofs.Tests.{so}
use Rattle.lines.proofs.OutLaws.{wrote_as, wrote-nil, wrote_then, wrote-length}
use Rattle.globals.proofs.Laws.{text-by}
use Rattle.globals.proofs.put_line.Goals as goal

pub returns-then-is_globals : goal.returns-then-is_globals
returns-then-is_globals c =
    let a = c.args in
    wrote_as (sym (text-by a.line.now true (so c.is_globals.ensures c.if-is_globals.true))) (wrote-nil a.out.now a.o (omega (arith, c.requires)))

pub put-p-requires : goal.put-p-requires
put-p-requires c =
    let a = c.args in
    omega (arith, c.requires, ap length (text-by a.line.now false (so c.is_globals.ensures c.if-is_globals.false)), length-append a.line.now (10 ∷ []))

pub put_byte-requires : goal.put_byte-requires
put_byte-requires c =
    let a = c.args in
    let w = c.put-p.ensures in
    omega (arith, c.requires, wrote-length w, w.place, ap length (text-by a.line.now false (so c.is_globals.ensures c.if-is_globals.false)), length-append a.line.now (10 ∷ []))

pub returns : goal.returns
returns c =
    let a = c.args in
    wrote_as (sym (text-by a.line.now false (so c.is_globals.ensures c.if-is_globals.false))) (wrote_then c.put-p.ensures c.put_byte.ensures)
