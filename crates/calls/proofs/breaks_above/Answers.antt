use native.Mathlib.Omega.{arith}
use mathlib.Core.Path.{sym}
use Rattle.lines.specs.Lf.{lines_of}
use Rattle.lexical.proofs.LexLaws.{strip-length}
use Rattle.forms.specs.Breaks.{breaks}
use Rattle.calls.proofs.StepLaws.{down-end, down-clean, down-plain, front-is}
use Rattle.calls.proofs.breaks_above.Goals as goal

pub returns-then-text-eq0 : goal.returns-then-text-eq0
returns-then-text-eq0 c = let a = c.args in sym (down-end (breaks a.value.now) a.text.now 0 a.owner.now (omega (arith, c.if-text-eq0.true)))

pub returns-then-plain_end-value : goal.returns-then-plain_end-value
returns-then-plain_end-value c = let a = c.args in down-plain a.value.now _ c.plain_end.ensures c.if-plain_end-value.true (lines_of a.text.now) a.owner.now _ c.breaks_taken.ensures

pub strip_lexical-n-requires : goal.strip_lexical-n-requires
strip_lexical-n-requires c = omega (arith, c.requires, strip-length c.args.value.now)

pub returns : goal.returns
returns c = let a = c.args in down-clean a.value.now _ (front-is c.strip_lexical-n.ensures c.cut.ensures) (lines_of a.text.now) a.owner.now _ c.breaks_taken-2.ensures
