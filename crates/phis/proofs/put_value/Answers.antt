use native.Mathlib.Omega.{arith}
use mathlib.Core.List.{[], ◌∷◌, ◌++◌}
use lib.ListN.{length-append}
use Rattle.lines.proofs.OutLaws.{wrote_then, wrote-length}
use Rattle.phis.proofs.put_value.Goals as goal

pub put-p-requires : goal.put-p-requires
put-p-requires c =
    let a = c.args in
    omega (arith, c.requires, length-append a.indent.now a.x.now, length-append (a.indent.now ++ a.x.now) (59 ∷ 10 ∷ []))

pub put-q-requires : goal.put-q-requires
put-q-requires c =
    let a = c.args in
    let put = c.put-p in
    omega (arith, c.requires, length-append a.indent.now a.x.now, length-append (a.indent.now ++ a.x.now) (59 ∷ 10 ∷ []), wrote-length put.ensures, put.ensures.place)

pub put-requires : goal.put-requires
put-requires c =
    let a = c.args in
    let put = c.put-p in
    let put2 = c.put-q in
    omega (arith, c.requires, length-append a.indent.now a.x.now, length-append (a.indent.now ++ a.x.now) (59 ∷ 10 ∷ []), wrote-length put.ensures, put.ensures.place, wrote-length put2.ensures, put2.ensures.place)

pub returns : goal.returns
returns c = wrote_then (wrote_then c.put-p.ensures c.put-q.ensures) c.put.ensures
