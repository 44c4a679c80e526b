-- What inner functions and laws ask beside Breaks: no promise of an entry hangs on it. Assumes nothing.
use Rattle.std.specs.Prelude.{ℕ, Bool, List}
use Rattle.lines.specs.Lf.{prefixed}
use Rattle.forms.specs.Breaks.{writes_by}

-- `name =`, `name++` or `++name` stands in front
unfoldable pub writes_here : List ℕ → List ℕ → Bool
writes_here n l = writes_by (λ (p : List ℕ). prefixed p l) n
