-- `breaks_dependency`: a line that was taken in writes what a value needs. Assumes nothing.
use Rattle.std.specs.Prelude.{ℕ, Bool, false, ◌||◌, List, [], ◌∷◌, ◌++◌, ltb}
use Prim.Native.Char.{code}
use Rattle.lines.specs.Ascii.{ascii}
use Rattle.lines.specs.Lf.{holds}
use Rattle.parse.specs.Parse.{parse_of}
use Rattle.parse.specs.declared.Line.{Line}
use Rattle.parse.specs.declared.Line.TheVariants as line
use Rattle.words.specs.Runs.{reads_of}
use Rattle.lexical.specs.Idents.{words_in}
use Rattle.lexical.specs.Lex.{strip_lexical}

-- `name =`, `name++` or `++name` passes a test
abbrev pub writes_by : (List ℕ → Bool) → List ℕ → Bool
writes_by f n = f (n ++ ascii " =") || (f (n ++ ascii "++") || f (code "+" ∷ code "+" ∷ n))

-- `name =`, `name++` or `++name` stands in the line
unfoldable pub writes : List ℕ → List ℕ → Bool
writes n l = writes_by (λ (p : List ℕ). holds p l) n

-- one of the words is written
unfoldable pub writes_any : List (List ℕ) → List ℕ → Bool
unfolding writes
writes_any [] l = false
writes_any (n ∷ ns) l = writes n l || writes_any ns l

-- of a line that was read: a store stores a register that the value reads, or writes one of the words
abbrev pub breaks_by : List ℕ → List (List ℕ) → List ℕ → Line → Bool
breaks_by rhs ns l line.Decl = false
breaks_by rhs ns l (line.Store s) = ltb 0 (reads_of s.reg.0 rhs) || writes_any ns l
breaks_by rhs ns l line.Other = false

-- a line that was taken in is a store of a register that the value reads, or a store that writes one of the words
unfoldable pub breaks_with : List ℕ → List (List ℕ) → List ℕ → Bool
unfolding writes_any
breaks_with rhs ns l = breaks_by rhs ns l (parse_of l)

-- a store that was taken in stores a register that the value reads, or writes a name that it has
unfoldable pub breaks : List ℕ → List ℕ → Bool
unfolding breaks_with
breaks rhs l = breaks_with rhs (words_in (strip_lexical rhs)) l
