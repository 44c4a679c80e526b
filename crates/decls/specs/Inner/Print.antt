-- A declaration written anew, name by name, over any test of what stays. Assumes nothing.
use Rattle.std.specs.Prelude.{ℕ, ◌+◌, Bool, true, false, cond, List, [], ◌∷◌, ◌++◌, take, drop}
use Rattle.lines.specs.Ascii.{ascii}
use Rattle.text.specs.Trim.{trim_of}
use Rattle.names.specs.Inner.Names.{zeros}
use Rattle.parse.specs.Parse.{let_word}

-- a name as it is printed: its word, which is k bytes, and its digits without the zeros that lead
unfoldable pub bare_name : ℕ → List ℕ → List ℕ
bare_name k t = take k t ++ drop (k + zeros (drop k t)) t

-- a name of a declaration, where it stays
abbrev pub one : Bool → ℕ → List ℕ → List (List ℕ)
one stays k t = cond stays (bare_name k t ∷ []) []

-- the names that stay, of the pieces of a declaration
unfoldable pub kept : (List ℕ → Bool) → ℕ → List (List ℕ) → List (List ℕ)
unfolding bare_name
kept f k [] = []
kept f k (p ∷ ps) = one (f (trim_of p)) k (trim_of p) ++ kept f k ps

-- what stands before a name: `, `, or the indent and `let ` where no name went before
unfoldable pub lead_of : List ℕ → Bool → List ℕ
lead_of indent true = ascii ", "
lead_of indent false = indent ++ let_word

-- what ends a declaration, with its LF: nothing where there was no name
unfoldable pub end_of : Bool → List ℕ
end_of true = ascii ";\n"
end_of false = []

-- names one after the other; `some` says whether a name went before
unfoldable pub named : List ℕ → List (List ℕ) → Bool → List ℕ
unfolding lead_of
named indent [] some = []
named indent (x ∷ xs) some = lead_of indent some ++ x ++ named indent xs true

-- whether a name went before what follows them
unfoldable pub some_of : List (List ℕ) → Bool → Bool
some_of [] some = some
some_of (x ∷ xs) some = true

-- names and the end
abbrev pub decl_text : List ℕ → List (List ℕ) → Bool → List ℕ
decl_text indent xs some = named indent xs some ++ end_of (some_of xs some)
