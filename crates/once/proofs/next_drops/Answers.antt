use Prim.Native.Nat.{ℕ}
use mathlib.Core.Path.{refl, ap, ◌∙◌}
use lib.ListN.{drop, get_or}
use Rattle.lines.specs.Lf.{lines_of}
use Rattle.parse.specs.Parse.{parse_of}
use Rattle.reading.specs.Reading.{reading_of}
use Rattle.once.specs.Inner.Tables.{is_set, first_drops}
use Rattle.once.proofs.Told.{settled-first}
use Rattle.once.proofs.NotedFills.{kind-first, drop_at}
use Rattle.once.proofs.next_drops.Goals as goal

pub returns-then-c : goal.returns-then-c
returns-then-c c =
    let a = c.args in
    let p = c.requires in
    let b = c.byte_at-c in
    record { answer = settled-first (reading_of a.mode.0) (lines_of (drop a.j a.text.now)) a.paths.now a.k (is_set (get_or a.loops.now a.k 0)) b.result (kind-first a.text.now a.paths.now a.notes.now p.1.1.1.0 a.j a.k b.result p.0 b.ensures) c.if-c.true (drop_at a.text.now a.paths.now a.notes.now p.1.1.1.0 a.j a.k b.result p.0 b.ensures); memory = refl }

pub end_at-n-requires : goal.end_at-n-requires
end_at-n-requires c =
    let a = c.args in
    let p = c.requires in
    p.1.1.1.1 a.k a.j p.0

pub drops_at-requires : goal.drops_at-requires
drops_at-requires c =
    let a = c.args in
    let p = c.requires in
    let b = c.byte_at-c in
    ((c.end_at-n.ensures, c.parse-q.ensures ∙ ap parse_of c.cut.ensures), (p.1.0, (drop_at a.text.now a.paths.now a.notes.now p.1.1.1.0 a.j a.k b.result p.0 b.ensures, p.1.1.0)))

pub returns : goal.returns
returns c =
    let a = c.args in
    let e = c.drops_at.ensures in
    record { answer = e.answer ∙ ap (λ (f : ℕ). first_drops (reading_of a.mode.0) (lines_of (drop a.j a.text.now)) (drop a.k a.paths.now) (is_set f)) c.byte_at-h.ensures; memory = e.memory }
