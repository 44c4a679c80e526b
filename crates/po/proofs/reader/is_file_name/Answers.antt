use mathlib.Core.Path.{sym}
use Rattle.po.proofs.LineLaws.{name-none, name_by}
use Rattle.po.proofs.reader.is_file_name.Goals as goal

pub returns-then-name-eq0 : goal.returns-then-name-eq0
returns-then-name-eq0 c = sym (name-none c.args.name.now c.if-name-eq0.true)

pub returns : goal.returns
returns c = name_by c.args.name.now c.if-name-eq0.false _ c.file_name.ensures
