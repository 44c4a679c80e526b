-- Worked examples of purity, as one table: document 01's rows, and more of each shape. Assumes nothing.
use Prim.Native.Nat.{ℕ}
use mathlib.Core.Path.{◌≡◌, refl}
use mathlib.Core.Bool.{true}
use mathlib.Core.List.{List, [], ◌∷◌, map}
use Rattle.lines.specs.Ascii.{ascii}
use Rattle.lines.specs.Lf.{prefixed, same}
use Rattle.names.specs.Names.{numbered, read_number, reg_of, is_ident}
use Rattle.expr.specs.Fix.{deep, fix}
use Rattle.lexical.specs.Lex.{quote_len, quote_shut}
use Rattle.expr.specs.Comments.{strip, strip_comments}
use Rattle.expr.specs.Quotes.{cut_go, strip_quoted, is_closed}
use Rattle.expr.specs.Pure.{space_start, space_end, space_trim, wrapped, shape_of, openings, closings, elements, pure_by, judge, purity_in, purity_of}
use Rattle.expr.specs.declared.kinds.Purity.{Purity}
use Rattle.expr.specs.declared.kinds.Purity.TheVariants.{Stable, Ident, Effectful}

-- a value's text, and its purity
pub record Row : Type 0 where
  pub text : List ℕ
  pub kind : Purity

abbrev pub row : List ℕ → Purity → Row
row t k = record { text = t; kind = k }

-- the table:
-- `"a" + f() + "b"`, `"http://x"`, `[1,]`, `[,1]`, `0x10`, `0xff`, nothing, `r1`, `a /*x*/`, `a` U+3000 `/*c*/`, `[a, [b, 1]]`, `-1`, `- 1`,
-- `true`, `x.y`, `[/* function g */ g, 0]`, `1 /* x`, `["]", 1]`, `[ ]`, `'a"`
unfoldable pub rows : List Row
rows =
    row (34 ∷ 97 ∷ 34 ∷ 32 ∷ 43 ∷ 32 ∷ 102 ∷ 40 ∷ 41 ∷ 32 ∷ 43 ∷ 32 ∷ 34 ∷ 98 ∷ 34 ∷ []) Stable
    ∷ row (34 ∷ 104 ∷ 116 ∷ 116 ∷ 112 ∷ 58 ∷ 47 ∷ 47 ∷ 120 ∷ 34 ∷ []) Effectful
    ∷ row (91 ∷ 49 ∷ 44 ∷ 93 ∷ []) Stable
    ∷ row (91 ∷ 44 ∷ 49 ∷ 93 ∷ []) Effectful
    ∷ row (48 ∷ 120 ∷ 49 ∷ 48 ∷ []) Stable
    ∷ row (48 ∷ 120 ∷ 102 ∷ 102 ∷ []) Effectful
    ∷ row [] Effectful
    ∷ row (114 ∷ 49 ∷ []) Stable
    ∷ row (97 ∷ 32 ∷ 47 ∷ 42 ∷ 120 ∷ 42 ∷ 47 ∷ []) Ident
    ∷ row (97 ∷ 227 ∷ 128 ∷ 128 ∷ 47 ∷ 42 ∷ 99 ∷ 42 ∷ 47 ∷ []) Effectful
    ∷ row (91 ∷ 97 ∷ 44 ∷ 32 ∷ 91 ∷ 98 ∷ 44 ∷ 32 ∷ 49 ∷ 93 ∷ 93 ∷ []) Stable
    ∷ row (45 ∷ 49 ∷ []) Stable
    ∷ row (45 ∷ 32 ∷ 49 ∷ []) Effectful
    ∷ row (116 ∷ 114 ∷ 117 ∷ 101 ∷ []) Stable
    ∷ row (120 ∷ 46 ∷ 121 ∷ []) Effectful
    ∷ row (91 ∷ 47 ∷ 42 ∷ 32 ∷ 102 ∷ 117 ∷ 110 ∷ 99 ∷ 116 ∷ 105 ∷ 111 ∷ 110 ∷ 32 ∷ 103 ∷ 32 ∷ 42 ∷ 47 ∷ 32 ∷ 103 ∷ 44 ∷ 32 ∷ 48 ∷ 93 ∷ []) Stable
    ∷ row (49 ∷ 32 ∷ 47 ∷ 42 ∷ 32 ∷ 120 ∷ []) Stable
    ∷ row (91 ∷ 34 ∷ 93 ∷ 34 ∷ 44 ∷ 32 ∷ 49 ∷ 93 ∷ []) Effectful
    ∷ row (91 ∷ 32 ∷ 93 ∷ []) Stable
    ∷ row (39 ∷ 97 ∷ 34 ∷ []) Effectful
    ∷ []

-- the purity of each text by the definitions is the one that the table says
pub examples : map (λ (r : Row). purity_of r.text) rows ≡ map (λ (r : Row). r.kind) rows
unfolding rows prefixed same numbered read_number reg_of is_ident deep fix strip strip_comments space_start space_end space_trim wrapped shape_of openings closings elements pure_by judge purity_in
examples = refl

-- in strict mode: what is no single literal is no string, and a comment mark inside quotes is none
unfoldable pub strict_rows : List Row
strict_rows =
    row (ascii "\"a\" + f() + \"b\"") Effectful
    ∷ row (ascii "\"http://x\"") Stable
    ∷ row (ascii "'a' + 'b'") Effectful
    ∷ row (ascii "[\"http://x\", 'a//b']") Stable
    ∷ row (ascii "[[\"a\", [b, \"/*\"]], 1]") Stable
    ∷ row (ascii "[\"a,b\"]") Effectful
    ∷ row (ascii "\"a\\\"\"") Stable
    ∷ row (ascii "\"a\\\"") Effectful
    ∷ row (ascii "\"a\\\\\"") Stable
    ∷ row (ascii "\"a\" /* c */") Stable
    ∷ row (ascii "/* \"x\" */ \"y\"") Stable
    ∷ row (ascii "\"") Effectful
    ∷ row (ascii "\"\"") Stable
    ∷ row (ascii "\"a'b\"") Stable
    ∷ row (ascii "'a\" + f() + \"b'") Stable
    ∷ row (ascii "`a`") Effectful
    ∷ row (ascii "r1 // \"") Stable
    ∷ row (ascii "[`,`]") Effectful
    ∷ row (ascii "\"a\" + `/*` + f() /* */ + \"b\"") Effectful
    ∷ row (ascii "0xff") Effectful
    ∷ row (ascii "[,1]") Effectful
    ∷ row (ascii "[1,]") Stable
    ∷ []

pub strict-examples : map (λ (r : Row). purity_in true r.text) strict_rows ≡ map (λ (r : Row). r.kind) strict_rows
unfolding strict_rows prefixed same numbered read_number reg_of is_ident deep fix quote_len quote_shut cut_go strip_quoted is_closed space_start space_end space_trim wrapped shape_of openings closings elements pure_by judge purity_in
strict-examples = refl
