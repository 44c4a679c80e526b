use mathlib.Core.Path.{sym, ap}
use native.Mathlib.Omega.{arith}
use lib.ListN.{length}
use Rattle.lines.proofs.Tests.{so}
use Rattle.lines.proofs.OutLaws.{wrote_as, wrote_then, wrote-length}
use Rattle.forms.proofs.PrimaryLaws.{paren-bare, paren-held, paren-two}
use Rattle.forms.proofs.put_paren.Goals as goal

pub bare-requires : goal.bare-requires
bare-requires c = tt

pub put-requires : goal.put-requires
put-requires c = let s = c.before.before.before.before.before in let a = s.args in omega (arith, s.requires, ap length (paren-bare a.rhs.now a.after_new (so c.bare.ensures c.if-bare.true)))

pub returns-then-bare : goal.returns-then-bare
returns-then-bare c = wrote_as (sym (paren-bare _ _ (so c.bare.ensures c.if-bare.true))) c.put.ensures

pub put_byte-p-requires : goal.put_byte-p-requires
put_byte-p-requires c = let s = c.before.before.before.before.before in let a = s.args in omega (arith, s.requires, paren-two a.rhs.now a.after_new (so c.bare.ensures c.if-bare.false))

pub put-q-requires : goal.put-q-requires
put-q-requires c =
    let s = c.before.before.before.before.before.before.before.before.before in
    let a = s.args in
    let w = c.put_byte-p.ensures in
    omega (arith, s.requires, paren-two a.rhs.now a.after_new (so c.bare.ensures c.if-bare.false), wrote-length w, w.place)

pub put_byte-requires : goal.put_byte-requires
put_byte-requires c =
    let s = c.before.before.before.before.before.before.before.before.before.before.before.before.before in
    let a = s.args in
    let v = c.put-q.ensures in
    let w = c.put_byte-p.ensures in
    omega (arith, s.requires, paren-two a.rhs.now a.after_new (so c.bare.ensures c.if-bare.false), wrote-length w, w.place, wrote-length v, v.place)

pub returns : goal.returns
returns c =
    wrote_as (sym (paren-held _ _ (so c.bare.ensures c.if-bare.false)))
    (wrote_then (wrote_then c.put_byte-p.ensures c.put-q.ensures) c.put_byte.ensures)
