use native.Mathlib.Omega.{arith}
use Rattle.lines.proofs.OutLaws.{wrote_as, wrote_then, wrote-length}
use Rattle.words.proofs.Glue.{replaced-is, replaced-length}
use Rattle.words.proofs.put_replaced.Goals as goal

pub put-p-requires : goal.put-p-requires
put-p-requires c =
    let s = c.before.before.before.before.before.before in
    let a = s.args in
    omega (arith, s.requires, replaced-length a.w.from a.w.to a.line.now a.rep.now _ _ c.cut-before.ensures c.cut-after.ensures)

pub put_glued-q-requires : goal.put_glued-q-requires
put_glued-q-requires c =
    let s = c.before.before.before.before.before.before.before.before.before.before in
    let a = s.args in
    let w = c.put-p.ensures in
    omega (arith, s.requires, replaced-length a.w.from a.w.to a.line.now a.rep.now _ _ c.cut-before.ensures c.cut-after.ensures, wrote-length w, w.place)

pub put-requires : goal.put-requires
put-requires c =
    let s = c.before.before.before.before.before.before.before.before.before.before.before.before.before.before in
    let a = s.args in
    let v = c.put_glued-q.ensures in
    let w = c.put-p.ensures in
    omega (arith, s.requires, replaced-length a.w.from a.w.to a.line.now a.rep.now _ _ c.cut-before.ensures c.cut-after.ensures, wrote-length w, w.place, wrote-length v, v.place)

pub returns : goal.returns
returns c =
    let a = c.args in
    wrote_as (replaced-is a.w.from a.w.to a.line.now a.rep.now _ _ c.cut-before.ensures c.cut-after.ensures)
    (wrote_then (wrote_then c.put-p.ensures c.put_glued-q.ensures) c.put.ensures)
