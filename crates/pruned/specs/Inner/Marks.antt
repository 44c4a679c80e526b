-- A mark for each declared name, whether its region uses the register, and its digits behind it. The marks of a line stand at the front of the line's own room. Assumes nothing.
use Rattle.std.specs.Prelude.{ℕ, suc, ◌-◌, cond, List, [], ◌∷◌, ◌++◌, length, take, replicate}
use Prim.Native.Char.{code}
use Rattle.lines.specs.Lf.{parts_of}
use Rattle.text.specs.Trim.{trim_of}
use Rattle.parse.specs.Parse.{body_of, is_decl}
use Rattle.place.specs.Region.{region, region_at}
use Rattle.decls.specs.Inner.Decls.{stays}
use Rattle.pruned.specs.Inner.Fit.{tag_of, digits_of}

-- the mark of a piece of a declaration: 1 where the region uses its register, else the tag of its name
abbrev pub mark_of : List (List ℕ) → List ℕ → ℕ
mark_of run p = cond (stays run (trim_of p)) 1 (tag_of (digits_of (trim_of p)))

-- n bytes: xs, and then zeros
unfoldable pub padded : ℕ → List ℕ → List ℕ
padded n xs = xs ++ replicate (n - length xs) 0

-- n bytes, whatever xs has
abbrev pub filled : ℕ → List ℕ → List ℕ
filled n xs = padded n (take n xs)

-- a byte for each of the pieces' bytes and commas, and one more: the mark stands where the piece begins, and the digits of its name behind it
unfoldable pub names_marks : List (List ℕ) → List (List ℕ) → List ℕ
unfolding tag_of padded
names_marks run [] = []
names_marks run (p ∷ ps) = (mark_of run p ∷ filled (length p) (digits_of (trim_of p))) ++ names_marks run ps

-- those of a line: none where it is no declaration
unfoldable pub own_marks : List (List ℕ) → List ℕ → List ℕ
unfolding names_marks
own_marks run l = cond (is_decl (trim_of l)) (names_marks run (parts_of (code ",") (body_of (trim_of l)))) []

-- the room of a line is its bytes and its LF
unfoldable pub line_marks : List (List ℕ) → List ℕ → List ℕ
unfolding own_marks padded
line_marks run l = padded (suc (length l)) (own_marks run l)

-- the marks of lines; `run` is the region of the line above
unfoldable pub marks_go : List (List ℕ) → List (List ℕ) → List ℕ
unfolding line_marks
marks_go [] run = []
marks_go (l ∷ ls) run = line_marks (region_at l ls run) l ++ marks_go ls (region_at l ls run)

unfoldable pub marks_of : List (List ℕ) → List ℕ
unfolding marks_go
marks_of ls = marks_go ls (region ls)
