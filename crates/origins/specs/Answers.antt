-- Requests 7 and 9: the lines behind an output line, and the same records in another form. Assumes nothing.
use Rattle.std.specs.Prelude.{ℕ, suc, ◌*◌, Bool, true, false, cond, ◌&&◌, List, [], ◌∷◌, length, eqb, leb, ltb}
use Rattle.origins.specs.declared.Went.{Went}
use Rattle.origins.specs.declared.Went.TheVariants.{Equal, Changed, Inside, Away}
use Rattle.origins.specs.Form.{Shape, gone_of, size_of, file_of}
use Rattle.origins.specs.Read.{read_file, Said, says, wrong}

-- ---- request 7: the lines behind an output line

-- a line is in output line n, by itself or by its value
abbrev pub is_in : ℕ → Went → Bool
is_in n (Equal k) = eqb k n
is_in n (Changed k) = eqb k n
is_in n (Inside k) = eqb k n
is_in n Away = false

-- the lines from line i on that are in output line n, ascending
unfoldable pub behind_from : ℕ → ℕ → List Went → List ℕ
behind_from n i [] = []
behind_from n i (w ∷ ws) = cond (is_in n w) (i ∷ behind_from n (suc i) ws) (behind_from n (suc i) ws)

unfoldable pub behind : ℕ → List Went → List ℕ
unfolding behind_from
behind n ws = behind_from n 0 ws

-- what the reader answers: the lines, or a refusal by its number and place
pub data Lines : Type 0 where
  found : List ℕ → Lines
  refused : ℕ → ℕ → Lines

-- 6: the room is too short
abbrev pub roomed_lines : List ℕ → ℕ → Lines
roomed_lines ls room = cond (ltb room (length ls)) (refused 6 (length ls)) (found ls)

abbrev pub lines_by : ℕ → ℕ → Said → Lines
lines_by n room (says ws) = roomed_lines (behind n ws) room
lines_by n room (wrong c i) = refused c i

-- asked for output line n, of a file s, with room for so many lines
unfoldable pub lines_for : Shape → List ℕ → ℕ → ℕ → Lines
unfolding behind
lines_for F s n room = lines_by n room (read_file F s)

-- ---- request 9: another form

-- an output line is one that a form can write: the number that stands for gone is none
abbrev pub fits_out : Shape → Went → Bool
fits_out G (Equal n) = ltb n (gone_of G)
fits_out G (Changed n) = ltb n (gone_of G)
fits_out G (Inside n) = ltb n (gone_of G)
fits_out G Away = true

-- the record of line i can be written
abbrev pub fits : Shape → ℕ → Went → Bool
fits G i w = leb i (gone_of G) && fits_out G w

-- all can, from line i on
unfoldable pub fits_from : Shape → ℕ → List Went → Bool
fits_from G i [] = true
fits_from G i (w ∷ ws) = fits G i w && fits_from G (suc i) ws

-- the first that cannot, counted from i
unfoldable pub unfit : Shape → ℕ → List Went → ℕ
unfit G i [] = i
unfit G i (w ∷ ws) = cond (fits G i w) (unfit G (suc i) ws) i

-- what the converter answers: the file in the other form, or a refusal by its number and place
pub data Turned : Type 0 where
  turned : List ℕ → Turned
  denied : ℕ → ℕ → Turned

-- 7: the output is too short
abbrev pub roomed_file : Shape → List Went → ℕ → Turned
roomed_file G ws room = cond (ltb room (size_of G * length ws)) (denied 7 (size_of G * length ws)) (turned (file_of G ws))

-- 6: a record does not fit
abbrev pub turn_by : Shape → ℕ → Said → Turned
turn_by G room (says ws) = cond (fits_from G 0 ws) (roomed_file G ws room) (denied 6 (unfit G 0 ws))
turn_by G room (wrong c i) = denied c i

-- a file s of form F in form G, with room for so many bytes
unfoldable pub turn : Shape → Shape → List ℕ → ℕ → Turned
unfolding fits_from unfit
turn F G s room = turn_by G room (read_file F s)
