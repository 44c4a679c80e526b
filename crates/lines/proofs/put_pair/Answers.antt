use Rattle.std.proofs.Common.{◌-◌, length, drop, arith, length-drop, take_all}
use Rattle.lines.proofs.OutLaws.{wrote-over, wrote_as}
use Rattle.lines.proofs.put_pair.Goals as goal

pub returns : goal.returns
returns c =
    let a = c.args in
    let n = length a.t.now in
    let p = c.requires in
    wrote-over 8 (n - 8) (omega (arith, p.1.1)) (omega (arith, p.1.0)) (omega (arith, p.1.0)) c.put_eight.ensures
    (wrote_as (take_all 8 (drop (n - 8) a.t.now) (omega (arith, length-drop (n - 8) a.t.now))) c.put_eight-2.ensures)
