use Rattle.std.proofs.Common.{true, false, [], ◌∷◌, length, sym, ap, arith, length-append}
use Rattle.lines.specs.Lf.{lines_of}
use Rattle.lines.proofs.Tests.{so}
use Rattle.lines.proofs.OutLaws.{wrote_as, wrote-nil, wrote_then, wrote-length}
use Rattle.reading.specs.Reading.{reading_of}
use Rattle.temps.proofs.PassLaws.{text-by}
use Rattle.temps.proofs.put_line.Goals as goal

pub returns-then-goes : goal.returns-then-goes
returns-then-goes c =
    let a = c.args in
    let g = c.goes.ensures in
    record { answer = wrote_as (sym (text-by (reading_of a.mode.0) (lines_of a.text.now) a.line.now true (so g.answer c.if-goes.true))) (wrote-nil a.out.now a.o (omega (arith, c.requires.1))); memory = g.memory }

pub put-p-requires : goal.put-p-requires
put-p-requires c =
    let a = c.args in
    omega (arith, c.requires.1, ap length (text-by (reading_of a.mode.0) (lines_of a.text.now) a.line.now false (so c.goes.ensures.answer c.if-goes.false)), length-append a.line.now (10 ∷ []))

pub put_byte-requires : goal.put_byte-requires
put_byte-requires c =
    let a = c.args in
    let w = c.put-p.ensures in
    omega (arith, c.requires.1, wrote-length w, w.place, ap length (text-by (reading_of a.mode.0) (lines_of a.text.now) a.line.now false (so c.goes.ensures.answer c.if-goes.false)), length-append a.line.now (10 ∷ []))

pub returns : goal.returns
returns c =
    let a = c.args in
    let g = c.goes.ensures in
    record { answer = wrote_as (sym (text-by (reading_of a.mode.0) (lines_of a.text.now) a.line.now false (so g.answer c.if-goes.false))) (wrote_then c.put-p.ensures c.put_byte.ensures); memory = g.memory }
