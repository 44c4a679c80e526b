-- What inner functions and laws ask beside Globals: no promise of an entry hangs on it. Assumes nothing.
use Rattle.std.specs.Prelude.{ℕ, cond, List, [], ◌++◌}
use Rattle.lines.specs.Ascii.{ascii}
use Rattle.globals.specs.Globals.{is_globals}

-- the bytes that a line becomes
unfoldable pub globals_text : List ℕ → List ℕ
unfolding is_globals
globals_text l = cond (is_globals l) [] (l ++ ascii "\n")
