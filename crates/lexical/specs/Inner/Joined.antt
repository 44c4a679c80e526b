-- What a loop over lines carries, joined or not: no promise of an entry hangs on it. Assumes nothing.
use Rattle.std.specs.Prelude.{ℕ, Bool, true, false, List, [], ◌∷◌, drop}
use Rattle.lexical.specs.declared.Open.{Open}
use Rattle.lexical.specs.declared.Open.TheVariants.{Nothing}
use Rattle.lexical.specs.declared.Rest.{Rest}
use Rattle.lexical.specs.Joined.{taken, open_below}

-- where the rest of a line begins, and what the line hands on; where lines are not joined it is its own rest, and hands on nothing
abbrev pub rest_in : Bool → Open → List ℕ → Rest
rest_in true o l = record { from = taken o l; below = open_below o l }
rest_in false o l = record { from = 0; below = Nothing }

-- the rest of a line
abbrev pub rest_by : Bool → Open → List ℕ → List ℕ
rest_by joined o l = drop (rest_in joined o l).from l

-- the rests of lines, where o is left open above the first
unfoldable pub rests_by : Bool → Open → List (List ℕ) → List (List ℕ)
unfolding taken open_below
rests_by joined o [] = []
rests_by joined o (l ∷ ls) = rest_by joined o l ∷ rests_by joined (rest_in joined o l).below ls
