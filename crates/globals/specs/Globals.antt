-- `lines.retain` in `optimize`: lines that declare globals go. Assumes nothing.
use Rattle.std.specs.Prelude.{ℕ, Bool, cond, ◌||◌, List, [], ◌∷◌}
use Rattle.lines.specs.Ascii.{ascii}
use Rattle.lines.specs.Lf.{prefixed}
use Rattle.lines.specs.Acts.{Act, keep, gone, apply}
use Rattle.text.specs.Trim.{trim_of}

-- `__runtime.DeclareGlobals(` and `__runtime.DeclareGlobalsForInterpreter(`
abbrev pub globals_word : List ℕ
globals_word = ascii "__runtime.DeclareGlobals("

abbrev pub interpreter_word : List ℕ
interpreter_word = ascii "__runtime.DeclareGlobalsForInterpreter("

-- a line whose trimmed text starts with one of the two
unfoldable pub is_globals : List ℕ → Bool
is_globals l = prefixed globals_word (trim_of l) || prefixed interpreter_word (trim_of l)

unfoldable pub globals_acts : List (List ℕ) → List Act
unfolding is_globals
globals_acts [] = []
globals_acts (l ∷ ls) = cond (is_globals l) gone keep ∷ globals_acts ls

-- such lines go, and the others stay
unfoldable pub remove_globals : List (List ℕ) → List (List ℕ)
unfolding globals_acts apply
remove_globals ls = apply (globals_acts ls) ls
