use native.Mathlib.Omega.{arith}
use mathlib.Core.Path.{sym, ◌∙◌}
use lib.ListN.{length}
use Rattle.po.proofs.LineLaws.{reference-no, reference-word, reference-by, colon-le}
use Rattle.po.proofs.reader.is_reference.Goals as goal

pub returns-then-not-is_file_name : goal.returns-then-not-is_file_name
returns-then-not-is_file_name c = let a = c.args in reference-no a.l.now _ c.last_colon-c.ensures _ c.cut.ensures _ c.is_file_name.ensures (c.if-not-is_file_name.true)

pub returns-then-not-starts_with : goal.returns-then-not-starts_with
returns-then-not-starts_with c = let a = c.args in reference-word a.l.now _ c.last_colon-c.ensures (sym c.starts_with.ensures ∙ c.if-not-starts_with.true)

pub overflow_add-c : goal.overflow_add-c
overflow_add-c c = let a = c.args in omega (arith, c.last_colon-c.ensures, colon-le a.l.now (length a.l.now))

pub returns : goal.returns
returns c = let a = c.args in reference-by a.l.now _ c.last_colon-c.ensures _ c.cut.ensures _ c.is_file_name.ensures (c.if-not-is_file_name.false) (sym c.starts_with.ensures ∙ c.if-not-starts_with.false) _ c.cut-digits.ensures _ c.number_in.ensures _ c.is_decimal.ensures
