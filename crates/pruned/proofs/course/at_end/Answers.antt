use Rattle.pruned.proofs.CourseCode.{end_fits, end-stops}
use Rattle.pruned.proofs.course.at_end.Goals as goal

pub returns-then-byte_at-eq1 : goal.returns-then-byte_at-eq1
returns-then-byte_at-eq1 c = end_fits c.byte_at.result _ c.args.j c.byte_at.ensures c.if-byte_at-eq1.true

pub returns : goal.returns
returns c = end-stops c.byte_at.result _ c.args.j c.byte_at.ensures c.if-byte_at-eq1.false
