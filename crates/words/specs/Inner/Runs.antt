-- What inner functions and laws ask beside Runs: no promise of an entry hangs on it. Assumes nothing.
use Rattle.std.specs.Prelude.{ℕ, suc, ◌+◌, ◌-◌, ◌<◌, ◌≡◌, Bool, true, cond, not, ◌&&◌, List, [], ◌∷◌, ◌++◌, length, drop, get_or, eqb, ltb}
use Prim.Native.Char.{code}
use Rattle.lines.specs.Lf.{part, same}
use Rattle.text.specs.Class.{is_name}
use Rattle.words.specs.Runs.{count_by, runs}

-- how many runs are a word
abbrev pub words_of : List ℕ → List ℕ → ℕ
words_of p l = count_by (λ (r : List ℕ). same r p) (runs l)

-- ---- places

-- how many bytes stand before the first that passes a test: all, where there is none
unfoldable pub up_by : (ℕ → Bool) → List ℕ → ℕ
up_by f [] = 0
up_by f (x ∷ xs) = cond (f x) 0 (suc (up_by f xs))

-- how many bytes stand before the first run
abbrev pub gap_len : List ℕ → ℕ
gap_len l = up_by (λ (x : ℕ). is_name x) l

-- how many bytes stand before the first run that begins with `r`: all, where there is none; `p` says whether a name byte stands before
unfoldable pub reg_gap : Bool → List ℕ → ℕ
reg_gap p [] = 0
reg_gap p (x ∷ xs) = cond (eqb x (code "r") && not p) 0 (suc (reg_gap (is_name x) xs))

-- a name byte stands before the place j, not before the place i
abbrev pub after_name : ℕ → ℕ → List ℕ → Bool
after_name i j s = ltb i j && is_name (get_or s (j - 1) 0)

-- `r` stands before the place j, as a run may begin that begins at i or later, and no name byte stands after the place j
abbrev pub short_at : ℕ → ℕ → List ℕ → Bool
short_at i j s = (eqb (get_or s (j - 1) 0) (code "r") && not (after_name i (j - 1) s)) && not (is_name (get_or s (j + 1) 0))

-- how long the run at the front is
abbrev pub run_len : List ℕ → ℕ
run_len l = up_by (λ (x : ℕ). not (is_name x)) l

-- what a text gives run by run, left to right: `give` says what a run gives that ends at a place; i is the place that the walk has come
-- to, and `cur` the run so far
unfoldable pub walk_runs : {A : Type 0} → (ℕ → List ℕ → List A) → List ℕ → ℕ → List ℕ → List A
walk_runs give [] i cur = give i cur
walk_runs give (x ∷ xs) i cur =
    let more = walk_runs give xs (suc i) (cur ++ (x ∷ [])) in
    let ends = give i cur ++ walk_runs give xs (suc i) [] in
    cond (is_name x) more ends

-- the place of a run that ends at e, where there is one and it passes a test
abbrev pub place_by : (List ℕ → Bool) → ℕ → List ℕ → List ℕ
place_by f e [] = []
place_by f e (x ∷ xs) = cond (f (x ∷ xs)) ((e - length (x ∷ xs)) ∷ []) []

-- the places of the runs that pass a test, from the place i on
abbrev pub run_hits_from : (List ℕ → Bool) → List ℕ → ℕ → List ℕ
run_hits_from f s i = walk_runs (place_by f) (drop i s) i []

-- the places of the runs that pass a test
unfoldable pub run_hits : (List ℕ → Bool) → List ℕ → List ℕ
unfolding walk_runs
run_hits f l = walk_runs (place_by f) l 0 []

-- the places of the runs that pass a test, where the first of them is at r, or none is there and r is the end
abbrev pub hits_at : (List ℕ → Bool) → List ℕ → ℕ → List ℕ
hits_at f s r = cond (ltb r (length s)) (r ∷ run_hits_from f s (r + run_len (drop r s))) []

-- r is the place of the first run from i on that passes a test, or the end where there is none
pub record NextRun (f : List ℕ → Bool) (s : List ℕ) (i r : ℕ) : Type 0 where
  pub passes : r < length s → f (part r (r + run_len (drop r s)) s) ≡ true
  pub hits : run_hits_from f s i ≡ hits_at f s r
