-- What `prune_dead_temps` asks of one line, the bytes that it makes of it, and what it leaves in its scratch. Assumes nothing.
use Rattle.std.specs.Prelude.{ℕ, Bool, false, cond, ◌&&◌, ◌||◌, List, [], ◌∷◌, ◌++◌, ◌==◌, slice_index}
use Prim.Native.Char.{code}
use Rattle.lines.specs.Ascii.{ascii}
use Rattle.lines.specs.Inner.Out.{put_at}
use Rattle.text.specs.Trim.{trim_of}
use Rattle.names.specs.Names.{is_digit, is_temp}
use Rattle.expr.specs.Pure.{cut_in}
use Rattle.reading.specs.Reading.{Reading, pure_in}
use Rattle.reading.specs.Assign.{is_assign, left_of, right_of}
use Rattle.temps.specs.Temps.{dead_temp}

-- a digit stands after a `t` somewhere: without that no temp is named
unfoldable pub temp_in : List ℕ → Bool
temp_in [] = false
temp_in (x ∷ xs) = ((code "t") == x && is_digit (slice_index xs 0)) || temp_in xs

-- a line is a store of a temp, so that its value is judged
unfoldable pub temp_store : List ℕ → Bool
temp_store l = is_assign (trim_of l) && is_temp (left_of (trim_of l))

-- a line of the text ls goes
unfoldable pub temp_goes : Reading → List (List ℕ) → List ℕ → Bool
temp_goes R ls l = is_assign (trim_of l) && (dead_temp (left_of (trim_of l)) ls && pure_in R (right_of (trim_of l)))

-- the bytes that a line of the text ls becomes
unfoldable pub temp_text : Reading → List (List ℕ) → List ℕ → List ℕ
unfolding temp_goes
temp_text R ls l = cond (temp_goes R ls l) [] (l ++ ascii "\n")

-- the scratch d after a line, in strict mode or plain: a value that is judged stands at its front, without its comments
unfoldable pub scratch_line : Bool → List ℕ → List ℕ → List ℕ
unfolding temp_store
scratch_line strict l d = cond (temp_store l) (put_at d 0 (cut_in strict (right_of (trim_of l)))) d

-- the scratch d after some lines
unfoldable pub temp_scratch : Bool → List (List ℕ) → List ℕ → List ℕ
unfolding scratch_line
temp_scratch strict [] d = d
temp_scratch strict (l ∷ ls) d = temp_scratch strict ls (scratch_line strict l d)
