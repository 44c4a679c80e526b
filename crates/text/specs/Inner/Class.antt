-- What inner functions and laws ask beside Class: no promise of an entry hangs on it. Assumes nothing.
use Rattle.std.specs.Prelude.{ℕ, cond}
use Rattle.text.specs.Class.{is_name, is_quote, opens_pattern}

-- 1 a byte of a name, 2 a quote, 3 one after which `/` starts a pattern, 0 any other
unfoldable pub class_of : ℕ → ℕ
class_of b = cond (is_name b) 1 (cond (is_quote b) 2 (cond (opens_pattern b) 3 0))
