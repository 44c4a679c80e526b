use Prim.Native.Nat.{ℕ}
use mathlib.Core.Path.{refl, ap, ◌∙◌}
use native.Mathlib.Omega.{arith}
use lib.ListN.{length, replicate}
use Rattle.lines.specs.Lf.{lines_of}
use Rattle.lines.proofs.OutLaws.{wrote_as}
use Rattle.reading.specs.Reading.{reading_of}
use Rattle.decls.proofs.SeenLaws.{wiped-most}
use Rattle.once.proofs.BackLaws.{ends_of}
use Rattle.once.proofs.Passes.{filled-part, filled-to, filled-le, wrote-first, wrote-to, acts-text, once-text}
use Rattle.once.proofs.Moves.{mid-moves, mid-room}
use Rattle.once.proofs.optimize_once.Goals as goal

pub decide-n-requires : goal.decide-n-requires
decide-n-requires c = let p = c.requires in (p.0, (p.1.0, (p.1.1.0, (p.1.1.1.0, (p.1.1.1.1.0, (p.1.1.1.1.1.0, p.1.1.1.1.1.1.1.1.0))))))

pub slice_bounds-put_acts-end : goal.slice_bounds-put_acts-end
slice_bounds-put_acts-end c = omega (arith, filled-le c.decide-n.ensures.answer)

pub put_acts-m-requires : goal.put_acts-m-requires
put_acts-m-requires c = let a = c.args in (ends_of a.text.now _ _ (wiped-most (length a.ends.now) _ refl) c.decide-n.ensures.ends, omega (arith, ap length (acts-text (reading_of a.mode.0) (lines_of a.text.now) (filled-part c.decide-n.ensures.answer)), c.requires.1.1.1.1.1.1.0))

pub slice_bounds-prune_decls-end : goal.slice_bounds-prune_decls-end
slice_bounds-prune_decls-end c = let w = c.put_acts-m.ensures in omega (arith, w.fits, w.place, c.put_acts-m.auto.out)

pub prune_decls-requires : goal.prune_decls-requires
prune_decls-requires c =
    let a = c.args in
    let t = a.text.now in
    let e = wrote-first c.put_acts-m.ensures ∙ acts-text (reading_of a.mode.0) (lines_of t) (filled-part c.decide-n.ensures.answer) in
    (omega (arith, ap length (once-text (reading_of a.mode.0) t _ e), c.requires.1.1.1.1.1.1.1.0), omega (arith, mid-room (reading_of a.mode.0) t _ e, c.requires.1.1.1.1.1.1.1.1.1))

pub shape_of-scratch : goal.shape_of-scratch
shape_of-scratch c = c.decide-n.auto.scratch

pub shape_of-mid : goal.shape_of-mid
shape_of-mid c = c.put_acts-m.auto.out

pub shape_of-loops : goal.shape_of-loops
shape_of-loops c = c.decide-n.auto.loops

pub shape_of-marks : goal.shape_of-marks
shape_of-marks c = c.decide-n.auto.marks

pub shape_of-paths : goal.shape_of-paths
shape_of-paths c = c.decide-n.auto.paths

pub shape_of-up : goal.shape_of-up
shape_of-up c = c.decide-n.auto.up

pub shape_of-near : goal.shape_of-near
shape_of-near c = c.decide-n.auto.near

pub shape_of-far : goal.shape_of-far
shape_of-far c = c.decide-n.auto.far

pub shape_of-stores : goal.shape_of-stores
shape_of-stores c = c.decide-n.auto.stores

pub shape_of-notes : goal.shape_of-notes
shape_of-notes c = c.decide-n.auto.notes

pub shape_of-ends : goal.shape_of-ends
shape_of-ends c = c.wipe.auto.table ∙ c.decide-n.auto.ends

pub shape_of-seen : goal.shape_of-seen
shape_of-seen c = c.prune_decls.auto.seen

pub shape_of-out : goal.shape_of-out
shape_of-out c = c.prune_decls.auto.out

pub shape_of-moves : goal.shape_of-moves
shape_of-moves c = c.prune_decls.auto.moves

pub returns : goal.returns
returns c =
    let a = c.args in
    let t = a.text.now in
    let d = c.decide-n.ensures in
    let w = c.put_acts-m.ensures in
    let q = acts-text (reading_of a.mode.0) (lines_of t) (filled-part d.answer) in
    let r = d.memory in
    let z = d.tables in
    let p = c.prune_decls.ensures in
    record { answer = wrote_as (once-text (reading_of a.mode.0) t _ (wrote-first w ∙ q)) p.answer; memory = (r.0, (wrote-to (wrote_as q w), (r.1.0, (filled-to d.answer, (r.1.1.0, r.1.1.1))))); tables = (z.0, (z.1.0, (z.1.1.0, (z.1.1.1, (c.wipe.ensures ∙ ap (λ (n : ℕ). replicate n 0) c.decide-n.auto.ends, p.memory))))); moves = mid-moves (reading_of a.mode.0) t _ (wrote-first w ∙ q) p.moves }
