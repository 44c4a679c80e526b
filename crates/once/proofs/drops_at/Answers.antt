use mathlib.Core.Path.{refl, ◌∙◌}
use native.Mathlib.Omega.{arith}
use Rattle.lines.proofs.LfLaws.{find-le}
use Rattle.reading.specs.Reading.{reading_of}
use Rattle.once.proofs.Zeros.{zeroed-less}
use Rattle.once.proofs.CalmLaws.{calm-rest}
use Rattle.once.proofs.Decides.{value_room}
use Rattle.once.proofs.NotedFills.{drop-rest}
use Rattle.once.proofs.Fills.{first-end, first_short, first-line}
use Rattle.once.proofs.drops_at.Goals as goal

pub returns-then-i-text : goal.returns-then-i-text
returns-then-i-text c =
    let a = c.args in
    record { answer = first-end (reading_of a.mode.0) a.text.now a.paths.now a.i a.k a.in_loop c.if-i-text.true; memory = refl }

pub returns-then-k-paths : goal.returns-then-k-paths
returns-then-k-paths c =
    let a = c.args in
    record { answer = first_short (reading_of a.mode.0) a.text.now a.paths.now a.i a.k a.in_loop c.if-k-paths.true; memory = refl }

pub slice_bounds-line_drops-end : goal.slice_bounds-line_drops-end
slice_bounds-line_drops-end c = let a = c.args in omega (arith, find-le 10 a.text.now a.i a.e (omega (arith, c.if-i-text.false)) c.requires.0.0)

pub line_drops-requires : goal.line_drops-requires
line_drops-requires c =
    let a = c.args in
    let j = c.after-j in
    (c.requires.0.1, (zeroed-less (value_room a.i a.e a.text.now) c.requires.1.0, (drop-rest a.text.now a.paths.now a.i a.e j.result a.k _ a.note (omega (arith, c.if-i-text.false)) c.requires.0.0 j.ensures refl c.requires.1.1.0, calm-rest a.text.now a.calm j.result c.requires.1.1.1)))

pub returns : goal.returns
returns c =
    let a = c.args in
    let e = c.line_drops.ensures in
    let j = c.after-j in
    record { answer = e.answer ∙ first-line (reading_of a.mode.0) a.text.now a.paths.now a.i a.k a.in_loop a.e j.result _ (omega (arith, c.if-i-text.false)) c.requires.0.0 j.ensures (omega (arith, c.if-k-paths.false)) refl; memory = e.memory }
