use Rattle.std.proofs.Common.{rules, ◌<◌, arith, length}
use Rattle.origins.proofs.Thins.{next-at, next-in, k-in}
use Rattle.origins.proofs.note_next.Goals as goal

pub slice_bounds-first_standing-start : goal.slice_bounds-first_standing-start
slice_bounds-first_standing-start c = let h : c.args.k < length c.args.moves.now = k-in _ _ c.requires in omega arith

pub slice_bounds-first_standing-count : goal.slice_bounds-first_standing-count
slice_bounds-first_standing-count c = let h : c.args.k < length c.args.moves.now = k-in _ _ c.requires in omega arith

pub offset_bounds-moves-k : goal.offset_bounds-moves-k
offset_bounds-moves-k c = let h : c.args.k < length c.args.moves.now = k-in _ _ c.requires in search rules

pub overflow_add-j : goal.overflow_add-j
overflow_add-j c = let q = next-in c.args.moves.now c.args.k _ c.requires (next-at _ _ _ c.first_standing.ensures) in search rules

pub note-requires : goal.note-requires
note-requires c = next-in c.args.moves.now c.args.k _ c.requires (next-at _ _ _ c.first_standing.ensures)

pub returns : goal.returns
returns c = rw (← next-at c.args.moves.now c.args.k _ c.first_standing.ensures) c.note.ensures
