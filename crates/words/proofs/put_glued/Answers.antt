use mathlib.Core.Path.{sym, ap, ◌∙◌}
use native.Mathlib.Omega.{arith}
use lib.ListN.{length}
use Rattle.lines.proofs.OutLaws.{wrote_as, wrote_then, wrote-length}
use Rattle.words.proofs.Glue.{glued-bare, glued-held, glued-two}
use Rattle.words.proofs.put_glued.Goals as goal

pub put-requires : goal.put-requires
put-requires c =
    let s = c.before.before.before.before.before.before.before in
    let a = s.args in
    omega (arith, s.requires, ap length (glued-bare a.before.now a.rep.now a.after.now (sym c.is_glued.ensures ∙ c.if-not-is_glued.true)))

pub returns-then-not-is_glued : goal.returns-then-not-is_glued
returns-then-not-is_glued c = wrote_as (sym (glued-bare _ _ _ (sym c.is_glued.ensures ∙ c.if-not-is_glued.true))) c.put.ensures

pub put_byte-p-requires : goal.put_byte-p-requires
put_byte-p-requires c =
    let s = c.before.before.before.before.before.before.before in
    let a = s.args in
    omega (arith, s.requires, glued-two a.before.now a.rep.now a.after.now (sym c.is_glued.ensures ∙ c.if-not-is_glued.false))

pub put-q-requires : goal.put-q-requires
put-q-requires c =
    let s = c.before.before.before.before.before.before.before.before.before.before.before in
    let a = s.args in
    let w = c.put_byte-p.ensures in
    omega (arith, s.requires, glued-two a.before.now a.rep.now a.after.now (sym c.is_glued.ensures ∙ c.if-not-is_glued.false), wrote-length w, w.place)

pub put_byte-requires : goal.put_byte-requires
put_byte-requires c =
    let s = c.before.before.before.before.before.before.before.before.before.before.before.before.before.before.before in
    let a = s.args in
    let v = c.put-q.ensures in
    let w = c.put_byte-p.ensures in
    omega (arith, s.requires, glued-two a.before.now a.rep.now a.after.now (sym c.is_glued.ensures ∙ c.if-not-is_glued.false), wrote-length w, w.place, wrote-length v, v.place)

pub returns : goal.returns
returns c =
    wrote_as (sym (glued-held _ _ _ (sym c.is_glued.ensures ∙ c.if-not-is_glued.false)))
    (wrote_then (wrote_then c.put_byte-p.ensures c.put-q.ensures) c.put_byte.ensures)
