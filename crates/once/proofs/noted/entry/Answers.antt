use mathlib.Core.Path.{sym}
use lib.ListN.{get_or-eq_default}
use Rattle.once.proofs.noted.entry.Goals as goal

pub returns : goal.returns
returns c = sym (get_or-eq_default c.args.d.now 0 c.if-i-d.false)
