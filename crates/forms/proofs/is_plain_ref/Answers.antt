use mathlib.Core.Path.{ap, ◌∙◌}
use Prim.Native.Nat.{ℕ}
use mathlib.Core.List.{List}
use Rattle.lines.specs.Lf.{parts_of}
use Rattle.forms.specs.Primary.{all_idents, is_plain_ref}
use Rattle.forms.proofs.is_plain_ref.Goals as goal

pub trim-requires : goal.trim-requires
trim-requires c = tt

pub all_idents-requires : goal.all_idents-requires
all_idents-requires c = tt

pub returns : goal.returns
unfolding is_plain_ref
returns c = c.all_idents.ensures ∙ ap (λ (l : List ℕ). all_idents (parts_of 46 l)) c.trim.ensures.0
