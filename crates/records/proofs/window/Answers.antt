use mathlib.Core.Path.{ap}
use lib.ListN.{replicate}
use Rattle.records.proofs.window.Goals as goal

pub returns : goal.returns
returns c = ap (replicate 64) c.blank-z.ensures
