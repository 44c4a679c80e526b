use mathlib.Core.List.{[], ◌∷◌}
use Rattle.lines.specs.Lf.{lines_of}
use Rattle.bind.specs.Bind.{decl_count}
use Rattle.bind.proofs.CountLaws.{once-three}
use Rattle.bind.proofs.declared_once.Goals as goal

pub returns : goal.returns
returns c = let a = c.args in
    once-three c.count_decls-a.result c.line_decls-b.result c.count_decls-c.result (decl_count a.reg.0 (lines_of a.above.now)) (decl_count a.reg.0 (a.line.now ∷ [])) (decl_count a.reg.0 (lines_of a.below.now)) c.count_decls-a.ensures c.line_decls-b.ensures c.count_decls-c.ensures
