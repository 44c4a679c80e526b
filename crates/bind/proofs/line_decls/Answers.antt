use native.Mathlib.Omega.{arith}
use mathlib.Core.Path.{sym, ◌∙◌}
use Rattle.decls.proofs.Writes.{decl-long}
use Rattle.bind.proofs.CountLaws.{decl-line, decl-not}
use Rattle.bind.proofs.line_decls.Goals as goal

pub overflow_sub-t : goal.overflow_sub-t
overflow_sub-t c = omega (arith, decl-long _ (sym c.is_decl.ensures ∙ c.if-is_decl.true))

pub slice_bounds-count_pieces-count : goal.slice_bounds-count_pieces-count
slice_bounds-count_pieces-count c = omega (arith, decl-long _ (sym c.is_decl.ensures ∙ c.if-is_decl.true))

pub slice_bounds-count_pieces-start : goal.slice_bounds-count_pieces-start
slice_bounds-count_pieces-start c = omega (arith, decl-long _ (sym c.is_decl.ensures ∙ c.if-is_decl.true))

pub returns-then-is_decl : goal.returns-then-is_decl
returns-then-is_decl c = omega (arith, c.count_pieces.ensures, decl-line c.args.reg.0 c.args.line.now c.trim-t.result.now c.trim-t.ensures.0 (sym c.is_decl.ensures ∙ c.if-is_decl.true))

pub returns : goal.returns
returns c = omega (arith, c.requires, decl-not c.args.reg.0 c.args.line.now c.trim-t.result.now c.trim-t.ensures.0 (sym c.is_decl.ensures ∙ c.if-is_decl.false))
