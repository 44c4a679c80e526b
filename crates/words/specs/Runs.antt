-- `reads_in` of a text: its runs of name bytes that are registers. Assumes nothing.
use Rattle.std.specs.Prelude.{ℕ, suc, Bool, cond, List, [], ◌∷◌, ◌++◌}
use Rattle.text.specs.Class.{is_name}
use Rattle.names.specs.Names.{reg_of, reg_is}

-- `flush`: a run that has ended, where there is one
abbrev pub flush : List ℕ → List (List ℕ)
flush [] = []
flush (x ∷ xs) = (x ∷ xs) ∷ []

-- the runs of name bytes, left to right; `cur` is the run so far
unfoldable pub runs_go : List ℕ → List ℕ → List (List ℕ)
runs_go [] cur = flush cur
runs_go (x ∷ xs) cur =
    let more = runs_go xs (cur ++ (x ∷ [])) in
    let ends = flush cur ++ runs_go xs [] in
    cond (is_name x) more ends

-- the runs of name bytes of a text
unfoldable pub runs : List ℕ → List (List ℕ)
unfolding runs_go
runs l = runs_go l []

-- how many of them pass a test
unfoldable pub count_by : (List ℕ → Bool) → List (List ℕ) → ℕ
count_by f [] = 0
count_by f (r ∷ rs) = cond (f r) (suc (count_by f rs)) (count_by f rs)

-- `reads_in`: how often a text reads register v
abbrev pub reads_of : ℕ → List ℕ → ℕ
reads_of v l = count_by (λ (r : List ℕ). reg_is v (reg_of r)) (runs l)
