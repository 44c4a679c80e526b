use Rattle.lines.proofs.Tests.{so}
use Rattle.lines.proofs.Whole.{whole_room, whole-ended, whole-empty, whole-space, whole_open}
use Rattle.lines.proofs.put_lines.Goals as goal

pub put-p-requires : goal.put-p-requires
put-p-requires c = whole_room _ _ _ c.requires

pub returns-then-ends_lf : goal.returns-then-ends_lf
returns-then-ends_lf c = whole-ended c.put-p.ensures (so c.ends_lf.ensures c.if-ends_lf.true)

pub returns-then-text-eq0 : goal.returns-then-text-eq0
returns-then-text-eq0 c = whole-empty c.put-p.ensures c.if-text-eq0.true

pub put_byte-requires : goal.put_byte-requires
put_byte-requires c = whole-space c.put-p.ensures (so c.ends_lf.ensures c.if-ends_lf.false) c.if-text-eq0.false c.requires

pub returns : goal.returns
returns c = whole_open c.put-p.ensures (so c.ends_lf.ensures c.if-ends_lf.false) c.if-text-eq0.false c.put_byte.ensures
