use Prim.Native.Nat.{ℕ}
use mathlib.Core.Path.{ap, ◌∙◌}
use lib.ListN.{drop}
use Rattle.text.proofs.Trims.{rest_of}
use Rattle.lexical.proofs.rest_of.Goals as goal

pub returns : goal.returns
returns c = let s = c.args.s.now in c.cut.ensures ∙ rest_of s c.taken_by.result ∙ ap (λ (n : ℕ). drop n s) c.taken_by.ensures
