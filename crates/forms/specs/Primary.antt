-- `is_plain_ref`, `is_primary_expr`, `paren_if_needed`: whether a value may stand in a call without parentheses. Assumes nothing.
use Rattle.std.specs.Prelude.{ℕ, zero, suc, Bool, true, false, cond, not, ◌&&◌, ◌||◌, List, [], ◌∷◌, ◌++◌, eqb}
use Prim.Native.Char.{code}
use Rattle.lines.specs.Ascii.{ascii}
use Rattle.lines.specs.Lf.{among, parts_of, prefixed}
use Rattle.text.specs.Class.{is_quote}
use Rattle.text.specs.Trim.{trim_of}
use Rattle.names.specs.Names.{is_ident}
use Rattle.lexical.specs.Lex.{quote_len}

-- every piece is a simple name
unfoldable pub all_idents : List (List ℕ) → Bool
all_idents [] = true
all_idents (p ∷ ps) = is_ident p && all_idents ps

-- `is_plain_ref`: names with a `.` between them
unfoldable pub is_plain_ref : List ℕ → Bool
unfolding all_idents
is_plain_ref s = all_idents (parts_of (code ".") (trim_of s))

-- a word in front that makes a value no primary one: `typeof `, `void `, `delete `, `await `, `yield`, `function`, `class`, `async `
abbrev pub keyword : List ℕ → Bool
keyword t =
    prefixed (ascii "typeof ") t
    || (prefixed (ascii "void ") t
    || (prefixed (ascii "delete ") t
    || (prefixed (ascii "await ") t
    || (prefixed (ascii "yield") t
    || (prefixed (ascii "function") t
    || (prefixed (ascii "class") t
    || (prefixed (ascii "async ") t)))))))

-- `+-*/%<>=&|^~!?,`
abbrev pub is_operator : ℕ → Bool
is_operator x = among (ascii "+-*/%<>=&|^~!?,") x

-- how many brackets have been opened once x is passed; the depth may go below 0, so what opens and what closes are counted apart
abbrev pub opened : ℕ → ℕ → ℕ
opened x o = cond (among (ascii "([{") x) (suc o) o

-- how many have been closed
abbrev pub closed : ℕ → ℕ → ℕ
closed x c = cond (among (ascii ")]}") x) (suc c) c

-- no operator stands outside brackets and quotes; k bytes of a quote are still to pass, o brackets have been opened and c closed
unfoldable pub bare_go : List ℕ → ℕ → ℕ → ℕ → Bool
bare_go [] k o c = true
bare_go (x ∷ xs) (suc k) o c = bare_go xs k o c
bare_go (x ∷ xs) zero o c =
    let quoted = bare_go xs (quote_len xs x) o c in
    let on = bare_go xs 0 (opened x o) (closed x c) in
    cond (is_quote x) quoted (cond (is_operator x && eqb o c) false on)

-- of a trimmed value: not empty, no `-+!~?{` and no keyword in front, no operator outside brackets and quotes
unfoldable pub primary : List ℕ → Bool
unfolding bare_go
primary [] = false
primary (x ∷ xs) =
    not (among (ascii "-+!~?{") x) && (not (keyword (x ∷ xs)) && bare_go (x ∷ xs) 0 0 0)

-- `is_primary_expr`
abbrev pub is_primary : List ℕ → Bool
is_primary s = primary (trim_of s)

-- a value goes without parentheses: after `new` only a plain reference, elsewhere a primary expression
unfoldable pub bare : List ℕ → Bool → Bool
unfolding is_plain_ref primary
bare rhs after_new = cond after_new (is_plain_ref rhs) (is_primary rhs)

-- `paren_if_needed`
unfoldable pub paren_if_needed : List ℕ → Bool → List ℕ
unfolding bare
paren_if_needed rhs after_new = cond (bare rhs after_new) rhs (code "(" ∷ rhs ++ ascii ")")
