use native.Mathlib.Omega.{arith}
use mathlib.Core.Path.{refl, ap}
use lib.ListN.{length}
use Rattle.lines.proofs.OutLaws.{wrote_as, wrote_then, wrote-length}
use Rattle.calls.proofs.StepLaws.{wrapped-is, wrapped-long}
use Rattle.calls.proofs.put_wrapped.Goals as goal

pub put-p-requires : goal.put-p-requires
put-p-requires c =
    let a = c.args in
    omega (arith, c.requires, ap length c.cut.ensures, wrapped-long a.w.from a.w.to a.line.now a.value.now _ _ refl refl)

pub put_byte-q-requires : goal.put_byte-q-requires
put_byte-q-requires c =
    let a = c.args in
    let w = c.put-p.ensures in
    omega (arith, c.requires, ap length c.cut.ensures, wrapped-long a.w.from a.w.to a.line.now a.value.now _ _ refl refl, wrote-length w, w.place)

pub put-v-requires : goal.put-v-requires
put-v-requires c =
    let a = c.args in
    let w = c.put-p.ensures in
    let v = c.put_byte-q.ensures in
    omega (arith, c.requires, ap length c.cut.ensures, wrapped-long a.w.from a.w.to a.line.now a.value.now _ _ refl refl, wrote-length w, w.place, wrote-length v, v.place)

pub put_byte-e-requires : goal.put_byte-e-requires
put_byte-e-requires c =
    let a = c.args in
    let w = c.put-p.ensures in
    let v = c.put_byte-q.ensures in
    let u = c.put-v.ensures in
    omega (arith, c.requires, ap length c.cut.ensures, wrapped-long a.w.from a.w.to a.line.now a.value.now _ _ refl refl, wrote-length w, w.place, wrote-length v, v.place, wrote-length u, u.place)

pub put-requires : goal.put-requires
put-requires c =
    let a = c.args in
    let w = c.put-p.ensures in
    let v = c.put_byte-q.ensures in
    let u = c.put-v.ensures in
    let t = c.put_byte-e.ensures in
    omega (arith, c.requires, ap length c.cut.ensures, ap length c.cut-2.ensures, wrapped-long a.w.from a.w.to a.line.now a.value.now _ _ refl refl, wrote-length w, w.place, wrote-length v, v.place, wrote-length u, u.place, wrote-length t, t.place)

pub returns : goal.returns
returns c =
    let a = c.args in
    wrote_as (wrapped-is a.w.from a.w.to a.line.now a.value.now _ _ c.cut.ensures c.cut-2.ensures)
    (wrote_then (wrote_then (wrote_then (wrote_then c.put-p.ensures c.put_byte-q.ensures) c.put-v.ensures) c.put_byte-e.ensures) c.put.ensures)
