use mathlib.Core.Path.{refl, sym, ◌∙◌}
use native.Mathlib.Omega.{arith}
use Prim.Native.Nat.{◌<◌}
use lib.ListN.{length}
use Rattle.lines.specs.Lf.{lines_of}
use Rattle.place.specs.Region.{region}
use Rattle.lines.proofs.LfLaws.{find-le}
use Rattle.reading.specs.Reading.{reading_of}
use Rattle.once.proofs.NotedFills.{send-rest}
use Rattle.once.proofs.Fills.{takes-end, takes-line, mark-stays}
use Rattle.once.proofs.mark_at.Goals as goal

pub returns-then-j-text : goal.returns-then-j-text
returns-then-j-text c =
    let a = c.args in
    record { answer = mark-stays (takes-end (reading_of a.mode.0) a.line.now (region (lines_of a.run.now)) a.in_loop a.next a.text.now a.j c.if-j-text.true); memory = refl }

pub slice_bounds-line_forwards-end : goal.slice_bounds-line_forwards-end
slice_bounds-line_forwards-end c = let a = c.args in omega (arith, find-le 10 a.text.now a.j a.e (omega (arith, c.if-j-text.false)) c.requires.1.0)

pub line_forwards-requires : goal.line_forwards-requires
line_forwards-requires c =
    let a = c.args in
    let n = c.after-n in
    let h : a.j < length a.text.now = omega (arith, c.if-j-text.false) in
    (c.requires.0, (c.requires.1.1.0, (send-rest a.text.now a.line.now a.j a.e n.result a.note h c.requires.1.0 n.ensures c.requires.1.1.1.0, c.requires.1.1.1.1)))

pub returns-then-line_forwards : goal.returns-then-line_forwards
returns-then-line_forwards c =
    let a = c.args in
    let e = c.line_forwards.ensures in
    let n = c.after-n in
    record { answer = mark-stays (sym (takes-line (reading_of a.mode.0) a.line.now (region (lines_of a.run.now)) a.in_loop a.next a.text.now a.j a.e n.result (omega (arith, c.if-j-text.false)) c.requires.1.0 n.ensures) ∙ sym e.answer ∙ c.if-line_forwards.true); memory = e.memory }

pub returns : goal.returns
returns c =
    let a = c.args in
    let e = c.line_forwards.ensures in
    let n = c.after-n in
    record { answer = mark-stays (sym (takes-line (reading_of a.mode.0) a.line.now (region (lines_of a.run.now)) a.in_loop a.next a.text.now a.j a.e n.result (omega (arith, c.if-j-text.false)) c.requires.1.0 n.ensures) ∙ sym e.answer ∙ c.if-line_forwards.false); memory = e.memory }
