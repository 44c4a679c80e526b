use Prim.Native.Nat.{◌+◌}
use mathlib.Core.Path.{refl, sym, ap, ◌∙◌}
use native.Mathlib.Omega.{arith}
use lib.ListN.{length}
use Rattle.parse.specs.Parse.{parse_of}
use Rattle.reading.specs.Reading.{reading_of}
use Rattle.once.proofs.Zeros.{zeroed-less, zeroed-as}
use Rattle.once.proofs.Decides.{value_room}
use Rattle.once.proofs.Fills.{first_goes, first-stays}
use Rattle.once.proofs.NotedFills.{rows_on, drop_at, send_at, one_line, first-told}
use Rattle.once.proofs.mark_line.Goals as goal

pub returns-then-note : goal.returns-then-note
returns-then-note c =
    let a = c.args in
    let p = c.requires in
    let b = c.byte_at-note in
    record { answer = first-told (reading_of a.mode.0) a.text.now a.paths.now a.loops.now a.notes.now a.i a.e a.k a.run b.result p.0 p.1.1.1.1.0 b.ensures c.if-note.true; memory = refl }

pub drops_at-requires : goal.drops_at-requires
drops_at-requires c =
    let a = c.args in
    let p = c.requires in
    let b = c.byte_at-note in
    ((p.0.end, c.parse-p.ensures ∙ ap parse_of c.cut-line.ensures), (p.1.0, (drop_at a.text.now a.paths.now a.notes.now p.1.1.1.1.0 a.i a.k b.result p.0.rows b.ensures, p.1.1.1.0)))

pub returns-then-drops_at : goal.returns-then-drops_at
returns-then-drops_at c =
    let a = c.args in
    let p = c.requires in
    let d = c.drops_at in
    let f = c.byte_at-h in
    record { answer = first_goes (reading_of a.mode.0) a.text.now a.paths.now a.loops.now a.i a.e a.k a.run p.0 f.result f.ensures (sym d.ensures.answer ∙ c.if-drops_at.true); memory = d.ensures.memory }

pub next_drops-next-requires : goal.next_drops-next-requires
next_drops-next-requires c =
    let a = c.args in
    let p = c.requires in
    let n = c.after-j in
    ((rows_on a.text.now a.i a.k a.e n.result p.0.rows p.0.here p.0.end n.ensures), (zeroed-as c.drops_at.ensures.memory p.1.0, (p.1.1.1.0, (p.1.1.1.1.0, p.1.1.1.1.1))))

pub overflow_add-k-2 : goal.overflow_add-k-2
overflow_add-k-2 c = let p = c.requires in omega (arith, p.0.above, p.0.here)

pub end_at-n-requires : goal.end_at-n-requires
end_at-n-requires c =
    let a = c.args in
    let p = c.requires in
    let n = c.after-j in
    p.1.1.1.1.1 (a.k + 1) n.result (rows_on a.text.now a.i a.k a.e n.result p.0.rows p.0.here p.0.end n.ensures)

pub mark_at-requires : goal.mark_at-requires
mark_at-requires c =
    let a = c.args in
    let p = c.requires in
    let n = c.after-j in
    let b = c.byte_at-note in
    let l = c.cut-line in
    let r = c.cut-area in
    (c.parse-p.ensures, (c.end_at-n.ensures, (zeroed-less (let h = value_room a.i a.e a.text.now in let q = ap length l.ensures in omega arith) (zeroed-as (c.next_drops-next.ensures.memory ∙ c.drops_at.ensures.memory) p.1.0), (send_at a.text.now a.paths.now a.notes.now p.1.1.1.1.0 a.i a.k b.result p.0.rows b.ensures a.e n.result l.result.now p.0.here p.0.end n.ensures l.ensures, one_line a.text.now a.notes.now a.i a.e a.k a.run l.result.now r.result.now b.result l.ensures r.ensures b.ensures p.1.1.0))))

pub returns : goal.returns
returns c =
    let a = c.args in
    let p = c.requires in
    let m = c.mark_at in
    let r = c.cut-area in
    let x = c.next_drops-next in
    let n = c.after-j in
    let d = c.drops_at in
    let f = c.byte_at-h in
    let l = c.cut-line in
    record { answer = first-stays (reading_of a.mode.0) a.text.now a.paths.now a.loops.now a.i a.e a.k a.run p.0 f.result f.ensures n.result l.result.now r.result.now x.result m.result (sym d.ensures.answer ∙ c.if-drops_at.false) n.ensures l.ensures r.ensures x.ensures.answer m.ensures.answer; memory = m.ensures.memory ∙ x.ensures.memory ∙ d.ensures.memory }
