use native.Mathlib.Omega.{arith}
use mathlib.Core.Path.{ap, ◌∙◌}
use Prim.Native.Nat.{ℕ}
use lib.ListN.{replicate}
use Rattle.lines.proofs.OutLaws.{wrote_as}
use Rattle.lines.proofs.Counts.{split-lines}
use Rattle.origins.proofs.stay_lines.Goals as goal

pub stay-requires : goal.stay-requires
stay-requires c = omega (arith, c.requires, c.count_lines-n.ensures, split-lines c.args.text.now)

pub returns : goal.returns
returns c = wrote_as (ap (λ (n : ℕ). replicate n 0) (c.count_lines-n.ensures ∙ split-lines c.args.text.now)) c.stay.ensures
