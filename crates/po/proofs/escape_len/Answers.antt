use mathlib.Core.Path.{sym}
use Rattle.po.proofs.UnitLaws.{escape-two, escape-one}
use Rattle.po.proofs.escape_len.Goals as goal

pub returns-then-b : goal.returns-then-b
returns-then-b c = sym (escape-two c.args.b c.if-b.true)

pub returns : goal.returns
returns c = sym (escape-one c.args.b c.if-b.false)
