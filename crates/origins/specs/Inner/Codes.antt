-- Fates as numbers, as the tables have them. Assumes nothing.
use Rattle.std.specs.Prelude.{ℕ, suc, ◌+◌, ◌-◌, cond, List, [], ◌∷◌, get_or, eqb, ltb}
use Rattle.lines.specs.Acts.{Act, keep, become, into, gone}
use Rattle.origins.specs.Fates.{Fate, at, held, lost}

-- ---- moves: how far down a line goes, 0 where it stands; past the last line where it is gone

abbrev pub far_move : ℕ
far_move = 18446744073709551615

unfoldable pub move_of : Act → ℕ
move_of keep = 0
move_of (become x) = 0
move_of (into n) = n
move_of gone = far_move

unfoldable pub moves_of : List Act → List ℕ
unfolding move_of
moves_of [] = []
moves_of (a ∷ more) = move_of a ∷ moves_of more

-- of a line that was written from o to p: it is gone where nothing was
abbrev pub note_of : ℕ → ℕ → ℕ
note_of o p = cond (eqb o p) far_move 0

-- ---- codes: n, it stands as line n; `half` and n, line n holds it; far, it is lost

abbrev pub half : ℕ
half = 9223372036854775808

unfoldable pub code_of : Fate → ℕ
code_of (at n) = n
code_of (held n) = half + n
code_of lost = far_move

unfoldable pub codes_of : List Fate → List ℕ
unfolding code_of
codes_of [] = []
codes_of (f ∷ fs) = code_of f ∷ codes_of fs

-- what was taken into a line of the code c
unfoldable pub taken_code : ℕ → ℕ
taken_code c = cond (ltb c half) (half + c) c

-- the codes of lines by their moves, where o lines come out above them
unfoldable pub land_go : List ℕ → ℕ → List ℕ
unfolding taken_code
land_go [] o = []
land_go (m ∷ ms) o = cond (eqb m 0) (o ∷ land_go ms (suc o)) (taken_code (get_or (far_move ∷ land_go ms o) m far_move) ∷ land_go ms o)

-- where a line of the code c is when the lines there have the codes gs
unfoldable pub on_code : List ℕ → ℕ → ℕ
unfolding taken_code
on_code gs c = cond (ltb c half) (get_or gs c far_move) (taken_code (get_or gs (c - half) far_move))

unfoldable pub through : List ℕ → List ℕ → List ℕ
unfolding on_code
through [] gs = []
through (c ∷ cs) gs = on_code gs c ∷ through cs gs

-- how many lines stand
unfoldable pub standing : List ℕ → ℕ
standing [] = 0
standing (m ∷ ms) = cond (eqb m 0) (suc (standing ms)) (standing ms)
