use Prim.Native.Nat.{ℕ}
use mathlib.Core.Path.{ap, ◌∙◌}
use lib.Dec.{eqb}
use Rattle.text.proofs.Classes.{class-quote}
use borrow.Author.Rules.{rules}
use Rattle.text.proofs.is_quote.Goals as goal

pub returns-in_default : goal.returns-in_default
returns-in_default c = ap (λ (x : ℕ). eqb x 2) c.class.ensures ∙ class-quote c.args.b (search rules)
