-- Worked examples of the first and the last step, as one table. Assumes nothing.
use Rattle.std.proofs.Common.{◌≡◌, ℕ, List, [], ◌∷◌, ◌++◌, map, refl}
use Rattle.lines.specs.Lf.{prefixed, ends_in, lines_of}
use Rattle.lines.specs.Steps.{drop_cr, split_lines, join_lines, settle, joined}

-- a text, its lines, those that are left of them, and the text that these give
pub record Row : Type 0 where
  pub text : List ℕ
  pub lines : List (List ℕ)
  pub left : List (List ℕ)
  pub result : List ℕ

-- an `a`, a CR, an LF, `let r0;`
abbrev pub a : ℕ
a = 97

abbrev pub cr : ℕ
cr = 13

abbrev pub lf : ℕ
lf = 10

abbrev pub decl : List ℕ
decl = 108 ∷ 101 ∷ 116 ∷ 32 ∷ 114 ∷ 48 ∷ 59 ∷ []

-- nothing goes: the lines that are left are those of the text
abbrev pub whole : List ℕ → List (List ℕ) → List ℕ → Row
whole t ls r = record { text = t; lines = ls; left = ls; result = r }

-- the table: first what stays whole, then a declaration that goes
unfoldable pub rows : List Row
rows =
    whole (a ∷ cr ∷ lf ∷ 98 ∷ []) ((a ∷ []) ∷ (98 ∷ []) ∷ []) (a ∷ lf ∷ 98 ∷ [])
    ∷ whole (a ∷ cr ∷ cr ∷ lf ∷ []) ((a ∷ cr ∷ []) ∷ []) (a ∷ cr ∷ lf ∷ [])
    ∷ whole (a ∷ cr ∷ []) ((a ∷ cr ∷ []) ∷ []) (a ∷ cr ∷ [])
    ∷ whole (a ∷ lf ∷ lf ∷ []) ((a ∷ []) ∷ [] ∷ []) (a ∷ lf ∷ [])
    ∷ whole [] [] []
    ∷ whole (lf ∷ []) ([] ∷ []) (lf ∷ [])
    ∷ record { text = decl ++ lf ∷ []; lines = decl ∷ []; left = []; result = lf ∷ [] }
    ∷ record { text = decl; lines = decl ∷ []; left = []; result = [] }
    ∷ []

-- what the definitions say of a row, and what the row says
abbrev pub said : Row → List (List ℕ) × List ℕ
said r = (split_lines r.text, joined (ends_in 10 r.text) r.left)

abbrev pub meant : Row → List (List ℕ) × List ℕ
meant r = (r.lines, r.result)

pub examples : map said rows ≡ map meant rows
unfolding rows prefixed lines_of drop_cr split_lines join_lines settle joined
examples = refl
