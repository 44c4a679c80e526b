-- What inner functions and laws ask beside Starts: no promise of an entry hangs on it. Assumes nothing.
use Rattle.std.specs.Prelude.{ℕ, Bool, cond, eqb}
use Rattle.lines.specs.Ascii.{ascii}
use Rattle.lines.specs.Lf.{among}

-- the same by the last character of a cleaned line of bytes
unfoldable pub starts_by_last : ℕ → Bool → Bool
starts_by_last last st = cond (eqb last 256) st (among (ascii ";{}:") last)
