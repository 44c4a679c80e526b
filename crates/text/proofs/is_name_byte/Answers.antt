use Prim.Native.Nat.{ℕ}
use mathlib.Core.Path.{ap, ◌∙◌}
use lib.Dec.{eqb}
use Rattle.text.proofs.Classes.{class-name}
use borrow.Author.Rules.{rules}
use Rattle.text.proofs.is_name_byte.Goals as goal

pub returns-then-b-lt48 : goal.returns-then-b-lt48
returns-then-b-lt48 c = ap (λ (x : ℕ). eqb x 1) c.class.ensures ∙ class-name c.args.b (search rules)

pub returns : goal.returns
returns c = ap (λ (x : ℕ). eqb x 1) c.class-2.ensures ∙ class-name c.args.b (search rules)
