use Prim.Native.Nat.{ℕ}
use mathlib.Core.Path.{ap, ◌∙◌}
use lib.Dec.{eqb}
use Rattle.text.proofs.Classes.{class-opens}
use borrow.Author.Rules.{rules}
use Rattle.text.proofs.opens_pattern.Goals as goal

pub returns : goal.returns
returns c = ap (λ (x : ℕ). eqb x 3) c.class.ensures ∙ class-opens c.args.b (search rules)
