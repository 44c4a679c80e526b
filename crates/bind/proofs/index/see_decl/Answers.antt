use mathlib.Core.Path.{ap, ◌∙◌}
use native.Mathlib.Omega.{arith}
use Rattle.parse.specs.Parse.{is_decl}
use Rattle.decls.proofs.Writes.{decl-long}
use Rattle.bind.proofs.IndexLaws.{see-decl}
use Rattle.bind.proofs.index.see_decl.Goals as goal

pub overflow_sub-t : goal.overflow_sub-t
overflow_sub-t c = omega (arith, decl-long _ (ap is_decl c.trim-t.ensures.0 ∙ c.requires.0))

pub returns : goal.returns
returns c =
    let a = c.args in
    let whole = see-decl a.own.now a.m a.b a.line.now c.trim-t.result.now c.trim-t.ensures.0 a.seen.now a.first.now (ap is_decl c.trim-t.ensures.0 ∙ c.requires.0) c.cut.result.now c.cut.ensures c.see_pieces.ensures.marked c.see_pieces.ensures.again in
    record { marked = whole.0; again = whole.1 }
