use native.Mathlib.Numerals.{add-one}
use Rattle.forms.proofs.bump.Goals as goal

pub returns-then-counts : goal.returns-then-counts
returns-then-counts c = rw c.if-counts.true (add-one c.args.n)
