use Rattle.std.proofs.Common.{true, false, sym, ◌∙◌}
use Rattle.lines.specs.Lf.{lines_of}
use Rattle.lines.proofs.Tests.{so}
use Rattle.temps.proofs.TableLaws.{used-by}
use Rattle.temps.proofs.table.flag_used.Goals as goal

pub returns-then-not-any_flag : goal.returns-then-not-any_flag
returns-then-not-any_flag c = let a = c.args in sym (used-by a.own.now a.declared.now (lines_of a.text.now) a.table.now false (so c.any_flag.ensures c.if-not-any_flag.true))

pub returns : goal.returns
returns c = let a = c.args in c.flag_lines.ensures ∙ sym (used-by a.own.now a.declared.now (lines_of a.text.now) a.table.now true (so c.any_flag.ensures c.if-not-any_flag.false))
