-- Laws of what lines read and store. Assumes nothing.
use Rattle.std.specs.List.{list_any}
use Prim.Native.Nat.{ℕ}
use mathlib.Core.Path.{◌≡◌, refl, ap, ◌∙◌}
use mathlib.Core.Bool.{Bool, ◌||◌}
use mathlib.Core.List.{List, [], ◌∷◌}
use Rattle.parse.specs.Parse.{parse_of, text_of}
use Rattle.parse.specs.declared.Line.{Line}
use Rattle.words.specs.Runs.{reads_of}
use Rattle.reading.specs.Uses.{line_reads, stores_by, line_stores, line_uses, used_in}

-- ---- one line, read once

module _ (v : ℕ) (l : List ℕ) (p : Line) (q : p ≡ parse_of l) where
  pub reads-of : (t : List ℕ) → t ≡ text_of l p → reads_of v t ≡ line_reads v l
  unfolding line_reads
  reads-of t e = ap (reads_of v) (e ∙ ap (text_of l) q)

  pub stores-of : stores_by v p ≡ line_stores v l
  unfolding line_stores
  stores-of = ap (stores_by v) q

-- ---- lines

pub used-any : (v : ℕ) (ls : List (List ℕ)) → list_any (line_uses v) ls ≡ used_in v ls
unfolding used_in
used-any v [] = refl
used-any v (l ∷ ls) = ap (λ (b : Bool). line_uses v l || b) (used-any v ls)
