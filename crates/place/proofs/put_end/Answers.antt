use mathlib.Core.Path.{sym}
use lib.Seq.{set_out}
use Rattle.place.proofs.put_end.Goals as goal

pub returns-then-ends-k : goal.returns-then-ends-k
returns-then-ends-k c = sym (set_out _ _ _ c.if-ends-k.true)
