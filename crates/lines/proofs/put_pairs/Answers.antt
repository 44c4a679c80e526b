use Rattle.std.proofs.Common.{◌-◌, length, drop, arith, length-drop, take_all}
use Rattle.lines.proofs.OutLaws.{wrote-over, wrote_as}
use Rattle.lines.proofs.put_pairs.Goals as goal

pub returns : goal.returns
returns c =
    let a = c.args in
    let n = length a.t.now in
    let p = c.requires in
    wrote-over 16 (n - 16) (omega (arith, p.1.1)) (omega (arith, p.1.0)) (omega (arith, p.1.0)) c.put_pair.ensures
    (wrote_as (take_all (n - (n - 16)) (drop (n - 16) a.t.now) (omega (arith, length-drop (n - 16) a.t.now))) c.put_pair-2.ensures)
