use Prim.Native.Nat.{ℕ, ◌≤◌}
use native.Mathlib.Omega.{arith}
use mathlib.Core.Path.{sym, ap, ◌∙◌, subst}
use lib.ListN.{length, replicate}
use lib.Seq.{length-take-le, length_front}
use Rattle.lines.specs.Lf.{lines_of, unlines}
use Rattle.place.proofs.Marks.{marks-length}
use Rattle.records.proofs.Shown.{told-ids}
use Rattle.calls.proofs.Rows.{told-ends}
use Rattle.calls.proofs.Wipes.{placed_by, acts-by, lines-by, filled_at, front-wiped, whole-wiped}
use mathlib.Core.Bool.{Bool}
use mathlib.Core.List.{List}
use Rattle.lines.proofs.OutLaws.{wrote_as}
use Rattle.lexical.specs.Joined.{rests_in}
use Rattle.place.specs.Inner.Parents.{ids_parents}
use Rattle.place.proofs.Fills.{filled-as}
use Rattle.records.proofs.Filled.{filled-by, block-count, start-count}
use Rattle.reading.specs.Reading.{joined_at}
use Rattle.calls.specs.Inner.Tables.{owners_of}
use Rattle.calls.proofs.rebuild_calls.Goals as goal

pub whole_size-h-requires : goal.whole_size-h-requires
whole_size-h-requires c = tt

pub place_lines-n-requires : goal.place_lines-n-requires
place_lines-n-requires c = let p = c.requires in (p.0.1.0, (p.0.1.1, ((subst (λ (j : Bool). length (ids_parents (rests_in j (lines_of c.args.text.now))) ≤ length c.args.up.now) (sym c.is_joined.ensures) p.1.0.0, p.1.0.1), p.1.1.1.1)))

pub note_lines-f-requires : goal.note_lines-f-requires
note_lines-f-requires c = let f = filled-by c.is_joined.ensures c.args.text.now c.place_lines-n.ensures.tables in told-ends (told-ids c.args.text.now c.requires.0.1.0 (block-count (joined_at c.args.mode.0) (lines_of c.args.text.now)) f.0 c.place_lines-n.ensures.ends)

pub slice_bounds-rebuild_with-end : goal.slice_bounds-rebuild_with-end
slice_bounds-rebuild_with-end c = omega (arith, c.note_lines-f.ensures.answer.0, c.note_lines-f.auto.notes)

pub slice_bounds-rebuild_with-end-2 : goal.slice_bounds-rebuild_with-end-2
slice_bounds-rebuild_with-end-2 c = sym (length-take-le c.note_lines-f.result c.note_lines-f.new.notes (omega (arith, c.note_lines-f.ensures.answer.0, c.note_lines-f.auto.notes)))

pub slice_bounds-rebuild_with-end-3 : goal.slice_bounds-rebuild_with-end-3
slice_bounds-rebuild_with-end-3 c = omega (arith, c.whole_size-h.ensures, c.requires.1.1.0.0)

pub slice_bounds-rebuild_with-end-4 : goal.slice_bounds-rebuild_with-end-4
slice_bounds-rebuild_with-end-4 c = sym (length-take-le c.whole_size-h.result c.args.stack.now (omega (arith, c.whole_size-h.ensures, c.requires.1.1.0.0)))

pub slice_bounds-rebuild_with-end-5 : goal.slice_bounds-rebuild_with-end-5
slice_bounds-rebuild_with-end-5 c = omega (arith, c.requires.1.1.0.1.0)

pub slice_bounds-rebuild_with-end-6 : goal.slice_bounds-rebuild_with-end-6
slice_bounds-rebuild_with-end-6 c = sym (length-take-le (length c.args.text.now) c.args.cur.now (omega (arith, c.requires.1.1.0.1.0)))

pub slice_bounds-rebuild_with-end-7 : goal.slice_bounds-rebuild_with-end-7
slice_bounds-rebuild_with-end-7 c = omega (arith, c.requires.1.1.0.1.1)

pub slice_bounds-rebuild_with-end-8 : goal.slice_bounds-rebuild_with-end-8
slice_bounds-rebuild_with-end-8 c = sym (length-take-le (length c.args.text.now) c.args.next.now (omega (arith, c.requires.1.1.0.1.1)))

pub rebuild_with-r-requires : goal.rebuild_with-r-requires
rebuild_with-r-requires c = let f = filled-by c.is_joined.ensures c.args.text.now c.place_lines-n.ensures.tables in let p = c.requires in ((placed_by c.args.mode.0 c.args.text.now f p.0.1.0 p.0.1.1, (p.0.0, (omega (arith, c.whole_size-h.ensures, length-take-le c.whole_size-h.result c.args.stack.now (omega (arith, c.whole_size-h.ensures, c.requires.1.1.0.0))), (omega (arith, length-take-le (length c.args.text.now) c.args.cur.now (omega (arith, c.requires.1.1.0.1.0))), (omega (arith, length-take-le (length c.args.text.now) c.args.next.now (omega (arith, c.requires.1.1.0.1.1))), subst (λ (x : List (List ℕ)). length (unlines x) ≤ length c.args.out.now) (sym (lines-by c.args.mode.0 c.args.text.now f)) p.1.1.1.0))))), (told-ids c.args.text.now c.requires.0.1.0 (block-count (joined_at c.args.mode.0) (lines_of c.args.text.now)) f.0 c.place_lines-n.ensures.ends, c.note_lines-f.ensures.answer.1))

pub wipe_numbers-requires : goal.wipe_numbers-requires
wipe_numbers-requires c = tt

pub shape_of-ends : goal.shape_of-ends
shape_of-ends c = c.place_lines-n.auto.ends

pub shape_of-owner : goal.shape_of-owner
shape_of-owner c = c.rebuild_with-r.auto.owner

pub shape_of-blocks : goal.shape_of-blocks
shape_of-blocks c = c.place_lines-n.auto.blocks

pub shape_of-starts : goal.shape_of-starts
shape_of-starts c = c.place_lines-n.auto.starts

pub shape_of-up : goal.shape_of-up
shape_of-up c = c.place_lines-n.auto.up

pub shape_of-near : goal.shape_of-near
shape_of-near c = c.note_lines-f.auto.near

pub shape_of-stores : goal.shape_of-stores
shape_of-stores c = c.note_lines-f.auto.stores

pub shape_of-notes : goal.shape_of-notes
shape_of-notes c = c.wipe_numbers.auto.numbers ∙ c.note_lines-f.auto.notes

pub shape_of-stack : goal.shape_of-stack
shape_of-stack c = length_front c.args.stack.now c.rebuild_with-r.new.stack c.whole_size-h.result c.rebuild_with-r.auto.stack

pub shape_of-cur : goal.shape_of-cur
shape_of-cur c = length_front c.args.cur.now c.rebuild_with-r.new.cur (length c.args.text.now) c.rebuild_with-r.auto.cur

pub shape_of-next : goal.shape_of-next
shape_of-next c = length_front c.args.next.now c.rebuild_with-r.new.next (length c.args.text.now) c.rebuild_with-r.auto.next

pub shape_of-out : goal.shape_of-out
shape_of-out c = c.rebuild_with-r.auto.out

pub returns : goal.returns
returns c =
    let f = filled-by c.is_joined.ensures c.args.text.now c.place_lines-n.ensures.tables in
    let j = joined_at c.args.mode.0 in
    let ls = lines_of c.args.text.now in
    record { answer = wrote_as (ap unlines (lines-by c.args.mode.0 c.args.text.now f)) c.rebuild_with-r.ensures.answer; owners = filled-as (ap owners_of (acts-by c.args.mode.0 c.args.text.now f)) c.rebuild_with-r.ensures.owners; tables = (filled_at f.0 (block-count j ls), (filled_at f.1.0 (start-count j ls), f.1.1)); scratch = (whole-wiped c.args.stack.now c.rebuild_with-r.new.stack c.whole_size-h.ensures (omega (arith, c.whole_size-h.ensures, c.requires.1.1.0.0)) c.rebuild_with-r.ensures.scratch.0, (front-wiped c.args.cur.now c.rebuild_with-r.new.cur (length c.args.text.now) (omega (arith, c.requires.1.1.0.1.0)) c.rebuild_with-r.ensures.scratch.1.0, front-wiped c.args.next.now c.rebuild_with-r.new.next (length c.args.text.now) (omega (arith, c.requires.1.1.0.1.1)) c.rebuild_with-r.ensures.scratch.1.1)); notes = (c.note_lines-f.ensures.memory.0, (c.note_lines-f.ensures.memory.1, c.wipe_numbers.ensures ∙ ap (λ (n : ℕ). replicate n 0) c.note_lines-f.auto.notes)); ends = filled_at c.place_lines-n.ensures.ends (marks-length 0 (lines_of c.args.text.now)) }
