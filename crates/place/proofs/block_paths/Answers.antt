use native.Mathlib.Omega.{arith}
use Rattle.place.specs.Inner.Parents.{path_pre, path_post}
use Rattle.place.proofs.Tables.{lines-place, lines-room, lines-length, lines-up}
use Rattle.place.proofs.Flats.{paths-start, paths-on, paths-all}
use Rattle.lines.proofs.EachLaws.{at-front, goes, stops}
use Rattle.place.proofs.block_paths.Goals as goal

pub loop-line-init : goal.loop-line-init
loop-line-init c = let e = c.into_iter-line-iterator.ensures.into_iter_gives in let g = c.each-line-items.ensures in (at-front e g.text g.front, rw (e, g.front) (paths-start c.args.text.now c.args.table.now c.args.up.now c.args.ends.now c.requires.0 c.requires.1.0 c.requires.1.1))

pub path_line-x-requires : goal.path_line-x-requires
path_line-x-requires c = let k = goes c.loop-line.invariant.0 c.in-Some.ensures.steps in rw k.here.bytes (lines-room path_pre path_post c.loop-line.invariant.1.lines k.here.starts c.in-Some.line.to k.here.to)

pub offset_bounds-table-k : goal.offset_bounds-table-k
offset_bounds-table-k c = let k = goes c.loop-line.invariant.0 c.in-Some.ensures.steps in let v = c.loop-line.invariant.1.lines in omega (arith, lines-place path_pre path_post v k.here.starts c.in-Some.line.to k.here.to, lines-length path_pre path_post v)

pub bounds-table-k : goal.bounds-table-k
bounds-table-k c = let k = goes c.loop-line.invariant.0 c.in-Some.ensures.steps in lines-place path_pre path_post c.loop-line.invariant.1.lines k.here.starts c.in-Some.line.to k.here.to

pub overflow_add-k : goal.overflow_add-k
overflow_add-k c = let k = goes c.loop-line.invariant.0 c.in-Some.ensures.steps in let v = c.loop-line.invariant.1.lines in omega (arith, lines-place path_pre path_post v k.here.starts c.in-Some.line.to k.here.to, lines-length path_pre path_post v)

pub loop-line-preserved : goal.loop-line-preserved
loop-line-preserved c = let k = goes c.loop-line.invariant.0 c.in-Some.ensures.steps in (k.on, paths-on c.loop-line.invariant.1 k.here.starts c.in-Some.line.to k.here.to k.here.next c.put_end.ensures c.wide.ensures (rw k.here.bytes at c.path_line-x.ensures))

pub shape_of-table : goal.shape_of-table
shape_of-table c = lines-length path_pre path_post c.loop-line.invariant.1.lines

pub shape_of-up : goal.shape_of-up
shape_of-up c = lines-up path_pre path_post c.loop-line.invariant.1.lines

pub shape_of-ends : goal.shape_of-ends
shape_of-ends c = c.loop-line.invariant.1.long

pub returns : goal.returns
returns c =
    let whole = paths-all c.loop-line.invariant.1 (stops c.loop-line.invariant.0 c.in-None.ensures.steps) in
    record { paths = whole.0; loops = whole.1.0; ends = whole.1.1 }
