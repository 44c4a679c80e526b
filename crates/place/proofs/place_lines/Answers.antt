use native.Mathlib.Omega.{arith}
use mathlib.Core.Path.{ap}
use Rattle.lines.specs.Lf.{part}
use Rattle.lines.proofs.LfLaws.{find-le}
use Rattle.lines.proofs.OutLaws.{writing-length}
use Rattle.lexical.specs.declared.Rest.{Rest}
use Rattle.lexical.proofs.JoinedLaws.{rest_le}
use Rattle.place.specs.Inner.Parents.{ids_pre, ids_post}
use Rattle.place.proofs.Tables.{rows-length, rows-up}
use Rattle.place.proofs.Walks.{place-start, place-block, place-flag, place-room, place-on, place-done}
use Rattle.place.proofs.Marks.{ends-start, ends-place, ends_on, ends-done}
use Rattle.lines.proofs.EachLaws.{at-front, goes, stops}
use Rattle.place.proofs.place_lines.Goals as goal

pub loop-line-init : goal.loop-line-init
loop-line-init c = let e = c.into_iter-line-iterator.ensures.into_iter_gives in let g = c.each-line-items.ensures in (at-front e g.text g.front, rw (e, g.front) (let a = c.args in let p = c.requires in (place-start a.joined a.text.now a.blocks.now a.starts.now a.up.now p.0 p.1.0 p.1.1.0.0 p.1.1.0.1, ends-start a.text.now a.ends.now p.1.1.1)))

pub end_mark-requires : goal.end_mark-requires
end_mark-requires c = let k = goes c.loop-line.invariant.0 c.in-Some.ensures.steps in omega (arith, find-le 10 c.args.text.now c.loop-line.line-iterator.at c.in-Some.line.to c.loop-line.invariant.0.at≤ k.here.to)

pub offset_bounds-ends-k : goal.offset_bounds-ends-k
offset_bounds-ends-k c = let k = goes c.loop-line.invariant.0 c.in-Some.ensures.steps in omega (arith, ends-place c.loop-line.invariant.1.1 k.here.starts c.in-Some.line.to k.here.to, writing-length c.loop-line.invariant.1.1.marks)

pub bounds-ends-k : goal.bounds-ends-k
bounds-ends-k c = let k = goes c.loop-line.invariant.0 c.in-Some.ensures.steps in ends-place c.loop-line.invariant.1.1 k.here.starts c.in-Some.line.to k.here.to

pub offset_bounds-blocks-k : goal.offset_bounds-blocks-k
offset_bounds-blocks-k c = let k = goes c.loop-line.invariant.0 c.in-Some.ensures.steps in omega (arith, place-block c.loop-line.invariant.1.0 k.here.starts c.in-Some.line.to k.here.to, rows-length ids_pre ids_post c.loop-line.invariant.1.0.blocks)

pub bounds-blocks-k : goal.bounds-blocks-k
bounds-blocks-k c = let k = goes c.loop-line.invariant.0 c.in-Some.ensures.steps in place-block c.loop-line.invariant.1.0 k.here.starts c.in-Some.line.to k.here.to

pub bounds-starts-k : goal.bounds-starts-k
bounds-starts-k c = let k = goes c.loop-line.invariant.0 c.in-Some.ensures.steps in place-flag c.loop-line.invariant.1.0 k.here.starts c.in-Some.line.to k.here.to

pub overflow_add-k : goal.overflow_add-k
overflow_add-k c = let k = goes c.loop-line.invariant.0 c.in-Some.ensures.steps in omega (arith, place-block c.loop-line.invariant.1.0 k.here.starts c.in-Some.line.to k.here.to, rows-length ids_pre ids_post c.loop-line.invariant.1.0.blocks)

pub slice_bounds-walk_line-count : goal.slice_bounds-walk_line-count
slice_bounds-walk_line-count c = let k = goes c.loop-line.invariant.0 c.in-Some.ensures.steps in rw k.here.bytes (omega (arith, rest_le c.args.joined c.loop-line.above (part c.loop-line.line-iterator.at c.in-Some.line.to c.args.text.now), ap (λ (r : Rest). r.from) (rw k.here.bytes at c.rest_in-rest.ensures)))

pub slice_bounds-walk_line-start : goal.slice_bounds-walk_line-start
slice_bounds-walk_line-start c = let k = goes c.loop-line.invariant.0 c.in-Some.ensures.steps in rw k.here.bytes (omega (arith, rest_le c.args.joined c.loop-line.above (part c.loop-line.line-iterator.at c.in-Some.line.to c.args.text.now), ap (λ (r : Rest). r.from) (rw k.here.bytes at c.rest_in-rest.ensures)))

pub walk_line-x-requires : goal.walk_line-x-requires
walk_line-x-requires c = let k = goes c.loop-line.invariant.0 c.in-Some.ensures.steps in rw k.here.bytes (place-room c.loop-line.invariant.1.0 k.here.starts c.in-Some.line.to k.here.to (rw k.here.bytes at c.rest_in-rest.ensures))

pub loop-line-preserved : goal.loop-line-preserved
loop-line-preserved c = let k = goes c.loop-line.invariant.0 c.in-Some.ensures.steps in (k.on, (place-on c.loop-line.invariant.1.0 k.here.starts c.in-Some.line.to k.here.to (λ j. omega (arith, c.shared_slice_known-1.given j)) c.wide.ensures c.flag.ensures (rw k.here.bytes at c.rest_in-rest.ensures) (rw k.here.bytes at c.walk_line-x.ensures) c.starts_after-st.ensures k.here.next, ends_on c.loop-line.invariant.1.1 k.here.starts c.in-Some.line.to k.here.to (rw k.here.bytes at c.end_mark.ensures) k.here.next))

pub shape_of-blocks : goal.shape_of-blocks
shape_of-blocks c = rows-length ids_pre ids_post c.loop-line.invariant.1.0.blocks

pub shape_of-starts : goal.shape_of-starts
shape_of-starts c = writing-length c.loop-line.invariant.1.0.starts

pub shape_of-up : goal.shape_of-up
shape_of-up c = rows-up ids_pre ids_post c.loop-line.invariant.1.0.blocks

pub shape_of-ends : goal.shape_of-ends
shape_of-ends c = writing-length c.loop-line.invariant.1.1.marks

pub returns : goal.returns
returns c =
    record { tables = place-done c.loop-line.invariant.1.0 (stops c.loop-line.invariant.0 c.in-None.ensures.steps); ends = ends-done c.loop-line.invariant.1.1 (stops c.loop-line.invariant.0 c.in-None.ensures.steps) }
