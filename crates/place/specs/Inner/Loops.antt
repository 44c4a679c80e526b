-- What inner functions and laws ask beside Loops: no promise of an entry hangs on it. Assumes nothing.
use Rattle.std.specs.Prelude.{ℕ, suc, ◌-◌, Bool, false, cond, ◌&&◌, ◌||◌, List, [], ◌∷◌, eqb, ltb}
use Prim.Native.Char.{code}
use Rattle.lines.specs.Ascii.{ascii}
use Rattle.lines.specs.Lf.{count_of, prefixed, same, holds, ends_in}
use Rattle.text.specs.Trim.{trim_of}
use Rattle.place.specs.declared.Nest.{Nest}
use Rattle.place.specs.Loops.{opens_loop}

-- ---- a trimmed line that begins a loop

-- by its front
abbrev pub loop_front : List ℕ → Bool
loop_front t = prefixed (ascii "while (") t || (prefixed (ascii "while(") t || (prefixed (ascii "for (") t || (prefixed (ascii "for(") t || same t (ascii "do {"))))

-- behind a label
abbrev pub loop_label : List ℕ → Bool
loop_label t = holds (ascii ": while (") t || holds (ascii ": for (") t

-- ---- the same by two numbers: how many blocks are open, and how many were when the outermost loop's was opened, or 0 where none is a loop's

-- the two numbers
abbrev pub nest : ℕ → ℕ → Nest
nest d o = record { depth = d; outer = o }

-- after the brace at the end of a trimmed line
unfoldable pub nest_open : List ℕ → ℕ → ℕ → Nest
unfolding opens_loop
nest_open t d o = cond (ends_in (code "{") t) (nest (suc d) (cond (eqb o 0 && opens_loop t) (suc d) o)) (nest d o)

-- after k blocks have been closed
unfoldable pub nest_close : ℕ → ℕ → ℕ → Nest
nest_close k d o = nest (d - k) (cond (ltb (d - k) o) 0 o)

-- after a trimmed line
unfoldable pub nest_line : List ℕ → ℕ → ℕ → Nest
unfolding nest_open nest_close
nest_line t d o = nest_close (count_of (code "}") t) (nest_open t d o).depth (nest_open t d o).outer

-- ---- where no line opens a loop's block, none stands in a loop

-- a line opens a loop's block
unfoldable pub starts_loop : List ℕ → Bool
unfolding opens_loop
starts_loop l = ends_in (code "{") (trim_of l) && opens_loop (trim_of l)

-- some line does
unfoldable pub some_loop : List (List ℕ) → Bool
unfolding starts_loop
some_loop [] = false
some_loop (l ∷ ls) = starts_loop l || some_loop ls

-- how many lines stand above the first that does
unfoldable pub above_loop : List (List ℕ) → ℕ
unfolding starts_loop
above_loop [] = 0
above_loop (l ∷ ls) = cond (starts_loop l) 0 (suc (above_loop ls))
