use Rattle.std.proofs.Common.{◌≡◌, drop}
use Rattle.forms.specs.Breaks.{writes}
use Rattle.forms.proofs.writes_word.Given as goal

abbrev pub invariant-loop-i : goal.invariant-loop-i
invariant-loop-i l = writes l.name (drop l.i l.line) ≡ writes l.name l.line
