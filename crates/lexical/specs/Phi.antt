-- `phi_rhs_pure`: a value of a phi that has no effect. Assumes nothing.
use Rattle.std.specs.Prelude.{ℕ, Bool, false, not, ◌&&◌, ◌||◌, List, [], ◌∷◌, eqb}
use Prim.Native.Char.{code}
use Rattle.lines.specs.Ascii.{ascii}
use Rattle.lines.specs.Lf.{among, prefixed}
use Rattle.lexical.specs.Lex.{strip_lexical}

-- one of the bytes of a list stands in the text
unfoldable pub any_of : List ℕ → List ℕ → Bool
any_of bs [] = false
any_of bs (c ∷ cs) = among bs c || any_of bs cs

-- an `=` that belongs to none of `==`, `===`, `!=`, `!==`, `<=` and `>=`; prev stands before the text
unfoldable pub assigns : List ℕ → ℕ → Bool
assigns [] prev = false
assigns (c ∷ cs) prev =
    (eqb c (code "=") && (not (among (ascii "=!<>") prev) && not (prefixed (ascii "=") cs))) || assigns cs c

-- no `(`, no `[`, no `.` and no assignment in the cleaned text
unfoldable pub phi_pure : List ℕ → Bool
unfolding any_of assigns
phi_pure t = not (any_of (ascii "([.") t) && not (assigns t (code " "))

-- `phi_rhs_pure`
unfoldable pub phi_rhs_pure : List ℕ → Bool
unfolding phi_pure strip_lexical
phi_rhs_pure rhs = phi_pure (strip_lexical rhs)
