use Rattle.std.proofs.Common.{sym}
use Rattle.lines.proofs.OutLaws.{wrote_as, wrote_then}
use Rattle.lines.proofs.JoinLaws.{joined-more, joined-front}
use Rattle.lines.proofs.join_lines.Goals as goal

pub returns-then-lf-n : goal.returns-then-lf-n
returns-then-lf-n c = let a = c.args in let j = c.joined_len-n in wrote_as (sym (joined-more a.ended a.lf.now j.result j.ensures c.if-lf-n.true)) (wrote_then c.put-o.ensures c.put_byte.ensures)

pub returns : goal.returns
returns c = let a = c.args in let j = c.joined_len-n in wrote_as (sym (joined-front a.ended a.lf.now j.result j.ensures c.if-lf-n.false)) c.put.ensures
