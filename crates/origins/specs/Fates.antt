-- Request 1: where each line goes, by the acts of one pass, and by passes one after the other. Assumes nothing.
use Rattle.std.specs.Prelude.{ℕ, zero, suc, cond, List, [], ◌∷◌, get_or}
use Rattle.lines.specs.Acts.{Act, keep, become, into, gone}
use Rattle.lines.specs.Lf.{same}
use Rattle.origins.specs.declared.Went.{Went}
use Rattle.origins.specs.declared.Went.TheVariants.{Equal, Changed, Inside, Away}

-- a line stands as line n of what comes out, its value is held by line n there, or it is lost
pub data Fate : Type 0 where
  at : ℕ → Fate
  held : ℕ → Fate
  lost : Fate

-- a line that was taken into another is where that one is
unfoldable pub taken : Fate → Fate
taken (at n) = held n
taken (held n) = held n
taken lost = lost

-- the n-th of fates; past the end there is nothing
unfoldable pub fate_at : List Fate → ℕ → Fate
fate_at [] n = lost
fate_at (f ∷ fs) zero = f
fate_at (f ∷ fs) (suc n) = fate_at fs n

-- the fates of lines by their acts, where o lines come out above them
unfoldable pub fates_go : List Act → ℕ → List Fate
unfolding taken fate_at
fates_go [] o = []
fates_go (keep ∷ more) o = at o ∷ fates_go more (suc o)
fates_go (become x ∷ more) o = at o ∷ fates_go more (suc o)
fates_go (into n ∷ more) o = taken (fate_at (lost ∷ fates_go more o) n) ∷ fates_go more o
fates_go (gone ∷ more) o = lost ∷ fates_go more o

-- of all lines
unfoldable pub fates_of : List Act → List Fate
unfolding fates_go
fates_of acts = fates_go acts 0

-- where a line is in the end that is f in between, when the lines there go where gs says
unfoldable pub onward : List Fate → Fate → Fate
unfolding taken fate_at
onward gs (at n) = fate_at gs n
onward gs (held n) = taken (fate_at gs n)
onward gs lost = lost

-- one pass after another
unfoldable pub follow : List Fate → List Fate → List Fate
unfolding onward
follow [] gs = []
follow (f ∷ fs) gs = onward gs f ∷ follow fs gs

-- n lines that stay, the first of them as line o
unfoldable pub staying : ℕ → ℕ → List Fate
staying zero o = []
staying (suc n) o = at o ∷ staying n (suc o)

-- ---- what is said of a line in the end

-- of the line l, where `out` are the lines that came out
unfoldable pub went_of : List (List ℕ) → List ℕ → Fate → Went
went_of out l (at n) = cond (same l (get_or out n [])) (Equal n) (Changed n)
went_of out l (held n) = Inside n
went_of out l lost = Away

-- of all lines
unfoldable pub wents_of : List (List ℕ) → List (List ℕ) → List Fate → List Went
unfolding went_of
wents_of out [] fs = []
wents_of out (l ∷ ls) [] = []
wents_of out (l ∷ ls) (f ∷ fs) = went_of out l f ∷ wents_of out ls fs
