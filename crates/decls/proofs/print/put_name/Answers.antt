use native.Mathlib.Omega.{arith}
use mathlib.Core.Path.{refl, ap, ◌∙◌}
use mathlib.Core.List.{[]}
use Rattle.lines.proofs.OutLaws.{writing-put, writing-end}
use Rattle.names.specs.Inner.Names.{zeros}
use Rattle.decls.specs.Inner.Print.{lead_of}
use Rattle.decls.proofs.PrintLaws.{name-most, name-writing, plain-writing, writing-fits}
use Rattle.decls.proofs.print.put_name.Goals as goal

pub put_lead-p-requires : goal.put_lead-p-requires
put_lead-p-requires c =
    let s = c in
    let a = s.args in
    let g = c.skip_zeros-z in
    writing-fits (lead_of a.indent.now a.some) _
    (name-writing a.t.now a.k g.result (g.ensures ∙ ap zeros c.cut.ensures) a.indent.now a.some a.out.now a.o s.requires _ _ refl refl)

pub put-requires : goal.put-requires
put-requires c =
    let s = c in
    let a = s.args in
    let g = c.skip_zeros-z in
    writing-fits a.t.now [] (writing-put (plain-writing a.t.now a.k g.result (g.ensures ∙ ap zeros c.cut.ensures) c.if-z-eq0.true a.indent.now a.some a.out.now a.o s.requires) c.put_lead-p.ensures)

pub returns-then-z-eq0 : goal.returns-then-z-eq0
returns-then-z-eq0 c =
    let s = c in
    let a = s.args in
    let g = c.skip_zeros-z in
    writing-end (writing-put (writing-put (plain-writing a.t.now a.k g.result (g.ensures ∙ ap zeros c.cut.ensures) c.if-z-eq0.true a.indent.now a.some a.out.now a.o s.requires) c.put_lead-p.ensures) c.put.ensures)

pub put-q-requires : goal.put-q-requires
put-q-requires c =
    let s = c in
    let a = s.args in
    let g = c.skip_zeros-z in
    writing-fits c.cut-2.result.now _
    (writing-put
    (name-writing a.t.now a.k g.result (g.ensures ∙ ap zeros c.cut.ensures) a.indent.now a.some a.out.now a.o s.requires _ _ c.cut-2.ensures refl)
    c.put_lead-p.ensures)

pub overflow_add-k : goal.overflow_add-k
overflow_add-k c = let a = c.args in let g = c.skip_zeros-z in omega (arith, name-most a.t.now a.k g.result (g.ensures ∙ ap zeros c.cut.ensures))

pub put-requires-2 : goal.put-requires-2
put-requires-2 c =
    let s = c in
    let a = s.args in
    let g = c.skip_zeros-z in
    writing-fits c.cut-3.result.now []
    (writing-put
    (writing-put
    (name-writing a.t.now a.k g.result (g.ensures ∙ ap zeros c.cut.ensures) a.indent.now a.some a.out.now a.o s.requires _ _ c.cut-2.ensures c.cut-3.ensures)
    c.put_lead-p.ensures) c.put-q.ensures)

pub returns : goal.returns
returns c =
    let s = c in
    let a = s.args in
    let g = c.skip_zeros-z in
    writing-end
    (writing-put
    (writing-put
    (writing-put
    (name-writing a.t.now a.k g.result (g.ensures ∙ ap zeros c.cut.ensures) a.indent.now a.some a.out.now a.o s.requires _ _ c.cut-2.ensures c.cut-3.ensures)
    c.put_lead-p.ensures) c.put-q.ensures) c.put-2.ensures)
