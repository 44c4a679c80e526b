use native.Mathlib.Omega.{arith}
use mathlib.Core.Path.{sym, ap, ◌∙◌}
use lib.ListN.{length}
use Rattle.lines.specs.Lf.{lines_of}
use Rattle.parse.specs.Parse.{is_decl}
use Rattle.lines.proofs.OutLaws.{wrote_as}
use Rattle.decls.proofs.Writes.{decl-long, line-decl-at}
use Rattle.decls.proofs.put_line.Goals as goal

pub overflow_sub-t : goal.overflow_sub-t
overflow_sub-t c = omega (arith, decl-long _ (ap is_decl c.trim-t.ensures.0 ∙ c.requires.0))

pub slice_bounds-put_decl-count : goal.slice_bounds-put_decl-count
slice_bounds-put_decl-count c = omega (arith, decl-long _ (ap is_decl c.trim-t.ensures.0 ∙ c.requires.0))

pub slice_bounds-put_decl-start : goal.slice_bounds-put_decl-start
slice_bounds-put_decl-start c = omega (arith, decl-long _ (ap is_decl c.trim-t.ensures.0 ∙ c.requires.0))

pub put_decl-requires : goal.put_decl-requires
put_decl-requires c =
    let s = c in
    let t = c.trim-t in
    let f = c.trim_from-a in
    let i = c.cut in
    (s.requires.1.0, omega (arith, s.requires.1.1, ap length (line-decl-at (lines_of s.args.region.now) s.args.line.now t.result.now t.ensures.0 f.result f.ensures i.result.now i.ensures (ap is_decl t.ensures.0 ∙ s.requires.0))))

pub returns : goal.returns
returns c =
    let s = c in
    let t = c.trim-t in
    let f = c.trim_from-a in
    let i = c.cut in
    wrote_as (sym (line-decl-at (lines_of s.args.region.now) s.args.line.now t.result.now t.ensures.0 f.result f.ensures i.result.now i.ensures (ap is_decl t.ensures.0 ∙ s.requires.0)))
    c.put_decl.ensures
