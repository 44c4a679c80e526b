-- What lines lose when they are joined to a text and the text is split again. Assumes nothing.
use Rattle.std.specs.Prelude.{ℕ, Bool, true, false, cond, not, ◌&&◌, List, [], ◌∷◌, eqb}
use Prim.Native.Char.{code}
use Rattle.lines.specs.Lf.{ends_in}
use Rattle.lines.specs.Steps.{split_lines, joined}
use Rattle.decls.specs.Decls.{prune_decls}

-- a line without the last of the CRs at its end, where there is one
unfoldable pub uncr : List ℕ → List ℕ
uncr [] = []
uncr (x ∷ []) = cond (eqb x (code "\r")) [] (x ∷ [])
uncr (x ∷ y ∷ l) = x ∷ uncr (y ∷ l)

-- a line that an LF follows loses a CR, and a last line that is blank goes; `ended` says whether the text ended in LF
unfoldable pub shed_rest : Bool → List (List ℕ) → List (List ℕ)
unfolding uncr
shed_rest ended [] = []
shed_rest ended ([] ∷ []) = []
shed_rest ended ((x ∷ l) ∷ []) = cond ended (uncr (x ∷ l)) (x ∷ l) ∷ []
shed_rest ended (l ∷ m ∷ ls) = uncr l ∷ shed_rest ended (m ∷ ls)

-- no line, or one that is blank: joined they are the empty text
unfoldable pub lone : List (List ℕ) → Bool
lone [] = true
lone ([] ∷ []) = true
lone ((x ∷ l) ∷ []) = false
lone (l ∷ m ∷ ls) = false

-- the lines that come back: of the empty text, where it ended in LF, one blank line
unfoldable pub shed : Bool → List (List ℕ) → List (List ℕ)
unfolding shed_rest lone
shed ended ls = cond (ended && lone ls) ([] ∷ []) (shed_rest ended ls)

-- nothing to lose: there is a line, the last is not blank, and none ends in CR
unfoldable pub firm : List (List ℕ) → Bool
firm [] = false
firm ([] ∷ []) = false
firm ((x ∷ l) ∷ []) = not (ends_in (code "\r") (x ∷ l))
firm (l ∷ m ∷ ls) = not (ends_in (code "\r") l) && firm (m ∷ ls)

-- the text that prune_decls alone makes of a text: its lines pruned, joined again
abbrev pub prune_text : List ℕ → List ℕ
prune_text t = joined (ends_in (code "\n") t) (prune_decls (split_lines t))
