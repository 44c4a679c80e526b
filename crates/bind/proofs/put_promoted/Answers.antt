use native.Mathlib.Omega.{arith}
use mathlib.Core.Path.{refl}
use mathlib.Core.List.{[], ◌∷◌, ◌++◌}
use lib.ListN.{length}
use Rattle.lines.proofs.OutLaws.{writing-put, writing-end}
use Rattle.lines.specs.Lf.{part}
use Rattle.parse.specs.Parse.{let_word}
use Rattle.decls.proofs.PrintLaws.{writing-fits}
use Rattle.bind.proofs.SiteLaws.{promoted-writing}
use Rattle.bind.proofs.put_promoted.Goals as goal

pub put-p-requires : goal.put-p-requires
put-p-requires c = let a = c.args in
    let f = c.trim_from-a in
    writing-fits c.cut.result.now (let_word ++ (part f.result (length a.line.now) a.line.now ++ (10 ∷ [] ++ [])))
    (promoted-writing a.line.now f.result f.ensures a.out.now a.o c.requires c.cut.result.now (part f.result (length a.line.now) a.line.now) c.cut.ensures refl)

pub put-q-requires : goal.put-q-requires
put-q-requires c = let a = c.args in
    let f = c.trim_from-a in
    writing-fits let_word (part f.result (length a.line.now) a.line.now ++ (10 ∷ [] ++ []))
    (writing-put (promoted-writing a.line.now f.result f.ensures a.out.now a.o c.requires c.cut.result.now (part f.result (length a.line.now) a.line.now) c.cut.ensures refl) c.put-p.ensures)

pub put-r-requires : goal.put-r-requires
put-r-requires c = let a = c.args in
    let f = c.trim_from-a in
    writing-fits c.cut-2.result.now (10 ∷ [] ++ [])
    (writing-put (writing-put (promoted-writing a.line.now f.result f.ensures a.out.now a.o c.requires c.cut.result.now c.cut-2.result.now c.cut.ensures c.cut-2.ensures) c.put-p.ensures) c.put-q.ensures)

pub put_byte-requires : goal.put_byte-requires
put_byte-requires c = let a = c.args in
    let f = c.trim_from-a in
    omega (
      arith,
      writing-fits (10 ∷ []) []
          (writing-put (writing-put (writing-put (promoted-writing a.line.now f.result f.ensures a.out.now a.o c.requires c.cut.result.now c.cut-2.result.now c.cut.ensures c.cut-2.ensures) c.put-p.ensures) c.put-q.ensures) c.put-r.ensures),
    )

pub returns : goal.returns
returns c = let a = c.args in
    let f = c.trim_from-a in
    writing-end (writing-put (writing-put (writing-put (writing-put (promoted-writing a.line.now f.result f.ensures a.out.now a.o c.requires c.cut.result.now c.cut-2.result.now c.cut.ensures c.cut-2.ensures) c.put-p.ensures) c.put-q.ensures) c.put-r.ensures) c.put_byte.ensures)
