use native.Mathlib.Omega.{arith}
use mathlib.Core.Path.{ap, ◌∙◌}
use lib.ListN.{length, length-set}
use Rattle.lines.specs.Lf.{part}
use Rattle.lines.proofs.OutLaws.{wrote-length, wrote_as}
use Rattle.calls.proofs.Turns.{line-is, end-in, end_after, starts-in, push-room, turn-plain, cur-room, walk-ready, made-room, turn-walked}
use Rattle.calls.proofs.turn_line.Goals as goal

pub offset_bounds-owner-n : goal.offset_bounds-owner-n
offset_bounds-owner-n c = omega (arith, c.requires.0.many)

pub bounds-owner-n : goal.bounds-owner-n
bounds-owner-n c = c.requires.0.many

pub slice_bounds-takes-count : goal.slice_bounds-takes-count
slice_bounds-takes-count c = end_after c.requires.0

pub slice_bounds-takes-start : goal.slice_bounds-takes-start
slice_bounds-takes-start c = end_after c.requires.0

pub slice_bounds-takes-end : goal.slice_bounds-takes-end
slice_bounds-takes-end c = end-in c.requires.0

pub bounds-starts-n : goal.bounds-starts-n
bounds-starts-n c = starts-in c.requires.0

pub takes-requires : goal.takes-requires
takes-requires c = tt

pub slice_bounds-put_line-count : goal.slice_bounds-put_line-count
slice_bounds-put_line-count c = end_after c.requires.0

pub slice_bounds-put_line-start : goal.slice_bounds-put_line-start
slice_bounds-put_line-start c = end_after c.requires.0

pub slice_bounds-put_line-end : goal.slice_bounds-put_line-end
slice_bounds-put_line-end c = end-in c.requires.0

pub put_line-requires : goal.put_line-requires
put_line-requires c = omega (arith, push-room c.requires.0, ap length (line-is (part c.args.i c.args.e c.args.text.now)))

pub shape_of-owner-then-not-takes : goal.shape_of-owner-then-not-takes
shape_of-owner-then-not-takes c = length-set c.args.owner.now c.args.n 0

pub shape_of-stack-then-not-takes : goal.shape_of-stack-then-not-takes
shape_of-stack-then-not-takes c = wrote-length c.put_line.ensures

pub returns-then-not-takes : goal.returns-then-not-takes
returns-then-not-takes c = turn-plain c.requires.0 _ c.takes.ensures c.if-not-takes.true (wrote_as (line-is _) c.put_line.ensures)

pub slice_bounds-put-count : goal.slice_bounds-put-count
slice_bounds-put-count c = end_after c.requires.0

pub slice_bounds-put-start : goal.slice_bounds-put-start
slice_bounds-put-start c = end_after c.requires.0

pub slice_bounds-put-end : goal.slice_bounds-put-end
slice_bounds-put-end c = end-in c.requires.0

pub put-size-requires : goal.put-size-requires
put-size-requires c = cur-room c.requires.0

pub slice_bounds-is_header-count : goal.slice_bounds-is_header-count
slice_bounds-is_header-count c = end_after c.requires.0

pub slice_bounds-is_header-start : goal.slice_bounds-is_header-start
slice_bounds-is_header-start c = end_after c.requires.0

pub slice_bounds-is_header-end : goal.slice_bounds-is_header-end
slice_bounds-is_header-end c = end-in c.requires.0

pub is_header-top-requires : goal.is_header-top-requires
is_header-top-requires c = tt

pub after-f-requires : goal.after-f-requires
after-f-requires c = tt

pub walk_up-w-requires : goal.walk_up-w-requires
walk_up-w-requires c = let w = walk-ready c.requires.0 c.put-size.ensures _ c.is_header-top.ensures _ c.after-f.ensures in (w.0, (w.1.0, (w.1.1.0, (w.1.1.1.0, (w.1.1.1.1.0, (w.1.1.1.1.1, c.requires.1))))))

pub cut-requires : goal.cut-requires
cut-requires c = tt

pub put_line-requires-2 : goal.put_line-requires-2
put_line-requires-2 c = omega (arith, made-room c.requires.0 c.put-size.ensures _ c.is_header-top.ensures c.walk_up-w.ensures _ c.cut.ensures, ap length (line-is c.cut.result.now))

pub shape_of-owner : goal.shape_of-owner
shape_of-owner c = c.walk_up-w.auto.owner ∙ length-set c.args.owner.now c.args.n 0

pub shape_of-stack : goal.shape_of-stack
shape_of-stack c = wrote-length c.put_line-2.ensures

pub shape_of-cur : goal.shape_of-cur
shape_of-cur c = c.walk_up-w.auto.cur ∙ wrote-length c.put-size.ensures

pub shape_of-next : goal.shape_of-next
shape_of-next c = c.walk_up-w.auto.next

pub returns : goal.returns
returns c = turn-walked c.requires.0 c.put-size.ensures _ c.is_header-top.ensures c.walk_up-w.ensures _ c.cut.ensures (c.walk_up-w.auto.owner ∙ length-set c.args.owner.now c.args.n 0) _ c.takes.ensures c.if-not-takes.false (wrote_as (line-is _) c.put_line-2.ensures)
