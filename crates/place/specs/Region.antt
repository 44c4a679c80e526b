-- `regions`: a header opens a new one. Assumes nothing.
use Rattle.std.specs.Prelude.{ℕ, Bool, cond, not, ◌&&◌, ◌||◌, List, [], ◌∷◌}
use Rattle.lines.specs.Ascii.{ascii}
use Rattle.lines.specs.Lf.{prefixed}

-- `function `
abbrev pub function_word : List ℕ
function_word = ascii "function "

-- `var `
abbrev pub var_word : List ℕ
var_word = ascii "var "

-- `let `
abbrev pub let_head : List ℕ
let_head = ascii "let "

-- `const `
abbrev pub const_word : List ℕ
const_word = ascii "const "

-- `class `
abbrev pub class_word : List ℕ
class_word = ascii "class "

-- `let phi`
abbrev pub let_phi : List ℕ
let_phi = ascii "let phi"

-- a line that starts with one of the five words and not with `let phi`; it has no leading white space then
unfoldable pub is_header : List ℕ → Bool
unfolding prefixed
is_header l =
    not (prefixed let_phi l)
    && (prefixed function_word l || (prefixed var_word l || (prefixed let_head l || (prefixed const_word l || prefixed class_word l))))

-- ---- by runs: a region is the run of lines that a line stands in

-- the lines above the first header
unfoldable pub until_header : List (List ℕ) → List (List ℕ)
until_header [] = []
until_header (l ∷ ls) = cond (is_header l) [] (l ∷ until_header ls)

-- the region that the first line opens, or is at the top of
unfoldable pub region : List (List ℕ) → List (List ℕ)
unfolding until_header
region [] = []
region (l ∷ ls) = l ∷ until_header ls

-- the region of a line before ls, given that of the line above
unfoldable pub region_at : List ℕ → List (List ℕ) → List (List ℕ) → List (List ℕ)
region_at l ls run = cond (is_header l) (l ∷ until_header ls) run
