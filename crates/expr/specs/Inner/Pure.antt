-- What inner functions and laws ask beside Pure: no promise of an entry hangs on it. Assumes nothing.
use Rattle.std.specs.Prelude.{ℕ, Bool, ◌&&◌, List, length}
use Rattle.text.specs.Class.{is_quote}
use Rattle.expr.specs.Fix.{fix}
use Rattle.expr.specs.declared.kinds.Purity.{Purity}
use Rattle.expr.specs.declared.kinds.Purity.TheVariants.{Effectful}
use Rattle.expr.specs.Pure.{cut_rule}

-- the purity of a text that is cut already, where no level looks for comments
unfoldable pub purity_cut : (List ℕ → Bool) → List ℕ → Purity
purity_cut quoted = fix (cut_rule quoted) Effectful length

-- a literal begins with the byte x, in strict mode
abbrev pub opens_literal : Bool → ℕ → Bool
opens_literal strict x = strict && is_quote x
