use Rattle.decls.proofs.Writes.{decl-long}
use Rattle.parse.specs.Parse.{is_decl}
use Rattle.lines.specs.Lf.{lines_of}
use mathlib.Core.Path.{ap, ◌∙◌}
use native.Mathlib.Omega.{arith}
use Rattle.pruned.proofs.MarkCode.{decl-room, decl-add, decl-sub, decl-zeros, decl-line}
use Rattle.pruned.proofs.marks.put_marks.Goals as goal

pub overflow_sub-t : goal.overflow_sub-t
overflow_sub-t c = omega (arith, decl-long _ (ap is_decl c.trim-t.ensures.0 ∙ c.requires.0))

pub slice_bounds-put_names-count : goal.slice_bounds-put_names-count
slice_bounds-put_names-count c = omega (arith, decl-long _ (ap is_decl c.trim-t.ensures.0 ∙ c.requires.0))

pub slice_bounds-put_names-start : goal.slice_bounds-put_names-start
slice_bounds-put_names-start c = omega (arith, decl-long _ (ap is_decl c.trim-t.ensures.0 ∙ c.requires.0))

pub put_names-p-requires : goal.put_names-p-requires
put_names-p-requires c = let s = c in let t = c.trim-t in (s.requires.1.0, decl-room (lines_of s.args.region.now) s.args.line.now t.result.now t.ensures.0 s.requires.0 s.args.out.now s.args.o s.requires.1.1)

pub overflow_add-line : goal.overflow_add-line
overflow_add-line c = let s = c in let t = c.trim-t in omega (arith, decl-add (lines_of s.args.region.now) s.args.line.now t.result.now t.ensures.0 s.requires.0 s.args.out.now s.args.o s.requires.1.1)

pub overflow_sub-p : goal.overflow_sub-p
overflow_sub-p c = let s = c in let t = c.trim-t in let h = decl-sub (lines_of s.args.region.now) s.args.line.now t.result.now t.ensures.0 s.requires.0 s.args.out.now s.args.o s.requires.1.1 c.put_names-p.ensures in omega (arith, h.0, h.1)

pub overflow_sub-line : goal.overflow_sub-line
overflow_sub-line c = let s = c in let t = c.trim-t in let h = decl-sub (lines_of s.args.region.now) s.args.line.now t.result.now t.ensures.0 s.requires.0 s.args.out.now s.args.o s.requires.1.1 c.put_names-p.ensures in omega (arith, h.0, h.1)

pub put_zeros-requires : goal.put_zeros-requires
put_zeros-requires c = let s = c in let t = c.trim-t in decl-zeros (lines_of s.args.region.now) s.args.line.now t.result.now t.ensures.0 s.requires.0 s.args.out.now s.args.o s.requires.1.1 c.put_names-p.ensures

pub returns : goal.returns
returns c = let s = c in let t = c.trim-t in decl-line (lines_of s.args.region.now) s.args.line.now t.result.now t.ensures.0 s.requires.0 s.args.out.now s.args.o s.requires.1.1 c.put_names-p.ensures c.put_zeros.ensures
