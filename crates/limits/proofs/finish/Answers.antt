use native.Mathlib.Omega.{arith}
use Rattle.lines.proofs.OutLaws.{wrote-length}
use Rattle.limits.proofs.AnswerLaws.{roomed-short, roomed-records, roomed-done, out-short, out-unrecorded, out-done}
use Rattle.limits.proofs.finish.Goals as goal

pub returns-then-out-n : goal.returns-then-out-n
returns-then-out-n c =
    record { answer = roomed-short _ _ c.args.need c.args.have c.joined_len-n.ensures c.if-out-n.true; memory = out-short _ _ _ }

pub returns-then-have-need : goal.returns-then-have-need
returns-then-have-need c =
    record { answer = roomed-records _ _ c.args.need c.args.have c.joined_len-n.ensures c.if-out-n.false c.if-have-need.true; memory = out-unrecorded _ _ _ }

pub join_lines-m-requires : goal.join_lines-m-requires
join_lines-m-requires c = omega (arith, c.joined_len-n.ensures, c.if-out-n.false)

pub shape_of-out : goal.shape_of-out
shape_of-out c = wrote-length c.join_lines-m.ensures

pub returns : goal.returns
returns c =
    let w = c.join_lines-m.ensures in
    record { answer = roomed-done _ _ c.args.need c.args.have w.place (omega (arith, c.joined_len-n.ensures, c.if-out-n.false)) c.if-have-need.false; memory = out-done w }
