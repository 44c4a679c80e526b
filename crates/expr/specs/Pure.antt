-- `purity`: how freely a value may be moved. Only ASCII white space is trimmed here. Assumes nothing.
use Rattle.std.specs.Prelude.{ℕ, ◌+◌, ◌-◌, Bool, true, false, cond, ◌&&◌, ◌||◌, List, [], ◌∷◌, ◌++◌, length, get_or, eqb, leb}
use Prim.Native.Char.{code}
use Rattle.lines.specs.Ascii.{ascii}
use Rattle.lines.specs.Lf.{within, among, part, same, all, is_empty}
use Rattle.names.specs.Names.{is_digit, reg_of, is_ident, is_reg}
use Rattle.expr.specs.Fix.{fix}
use Rattle.expr.specs.Comments.{strip_comments}
use Rattle.expr.specs.Quotes.{strip_quoted, is_closed}
use Rattle.expr.specs.declared.kinds.Shape.{Shape}
use Rattle.expr.specs.declared.kinds.Shape.TheVariants.{Plain, Array}
use Rattle.expr.specs.declared.kinds.Purity.{Purity}
use Rattle.expr.specs.declared.kinds.Purity.TheVariants.{Stable, Ident, Effectful}

-- ---- white space of ASCII

-- tab to carriage return, and the space
abbrev pub is_space : ℕ → Bool
is_space b = within 9 13 b || eqb b (code " ")

-- without the white space at the front
unfoldable pub space_start : List ℕ → List ℕ
space_start [] = []
space_start (a ∷ s) = cond (is_space a) (space_start s) (a ∷ s)

-- a and then s, but nothing where that is white space alone
abbrev pub unless_blank : ℕ → List ℕ → List ℕ
unless_blank a [] = cond (is_space a) [] (a ∷ [])
unless_blank a (b ∷ s) = a ∷ b ∷ s

-- without the white space at the end
unfoldable pub space_end : List ℕ → List ℕ
space_end [] = []
space_end (a ∷ s) = unless_blank a (space_end s)

-- `trim` of the widened text
unfoldable pub space_trim : List ℕ → List ℕ
unfolding space_start space_end
space_trim s = space_end (space_start s)

-- ---- the tests, in the order of the Rust

-- undefined null true false NaN Infinity
abbrev pub is_word : List ℕ → Bool
is_word t =
    same t (ascii "undefined")
    || (same t (ascii "null")
    || (same t (ascii "true")
    || (same t (ascii "false")
    || (same t (ascii "NaN") || same t (ascii "Infinity")))))

-- a digit first, or `-` and a digit
abbrev pub starts_number : List ℕ → Bool
starts_number t = is_digit (get_or t 0 0) || (eqb (get_or t 0 0) (code "-") && is_digit (get_or t 1 0))

-- digits . - + e x _
abbrev pub is_number_byte : ℕ → Bool
is_number_byte b = is_digit b || among (ascii ".-+ex_") b

-- x first and y last, in two bytes or more
unfoldable pub wrapped : ℕ → ℕ → List ℕ → Bool
wrapped x y t = leb 2 (length t) && (eqb (get_or t 0 0) x && eqb (get_or t (length t - 1) 0) y)

-- in `"` or in `'`: only the first byte and the last are looked at
abbrev pub is_quoted : List ℕ → Bool
is_quoted t = wrapped (code "\"") (code "\"") t || wrapped (code "'") (code "'") t

-- a string, in strict mode or plain: one literal, or in `"` or in `'`
abbrev pub quoted_in : Bool → List ℕ → Bool
quoted_in true t = is_closed t
quoted_in false t = is_quoted t

-- what a trimmed text is, where `quoted` tells a string: an array, or something whose purity does not hang on its parts
unfoldable pub shape_of : (List ℕ → Bool) → List ℕ → Shape
shape_of quoted t =
    cond (is_empty t) (Plain Effectful)
    (cond (is_reg (reg_of t)) (Plain Stable)
    (cond (is_word t) (Plain Stable)
    (cond (starts_number t) (cond (all is_number_byte t) (Plain Stable) (Plain Effectful))
    (cond (quoted t) (Plain Stable)
    (cond (wrapped (code "[") (code "]") t) Array
    (cond (is_ident t) (Plain Ident)
    (Plain Effectful)))))))

-- ---- arrays

-- what stands between the first byte and the last
abbrev pub inner : List ℕ → List ℕ
inner t = part 1 (length t - 1) t

-- brackets that open, and that close; the depth may go below 0, so the two are counted apart
unfoldable pub openings : ℕ → ℕ
openings b = cond (among (ascii "([{") b) 1 0

unfoldable pub closings : ℕ → ℕ
closings b = cond (among (ascii ")]}") b) 1 0

-- the elements of an array, cut at each comma at depth 0; `now` is what has been read of the present one, o brackets have been opened
-- and c closed. A last one that is white space alone is left out
unfoldable pub elements : List ℕ → List ℕ → ℕ → ℕ → List (List ℕ)
unfolding openings closings
elements [] now o c = cond (all is_space now) [] (now ∷ [])
elements (a ∷ s) now o c =
    let ended = now ∷ elements s [] o c in
    let longer = elements s (now ++ (a ∷ [])) (o + openings a) (c + closings a) in
    cond (eqb a (code ",") && eqb o c) ended longer

-- `pure_expr`
abbrev pub is_pure : Purity → Bool
is_pure Stable = true
is_pure Ident = true
is_pure Effectful = false

-- each element is pure by the judgement f
unfoldable pub pure_by : (List ℕ → Purity) → List ℕ → Bool
unfolding elements
pure_by f s = all (λ (e : List ℕ). is_pure (f e)) (elements s [] 0 0)

-- the purity of a trimmed text of that shape, where f judges an array's elements
unfoldable pub judge : (List ℕ → Purity) → List ℕ → Shape → Purity
unfolding pure_by
judge f t (Plain p) = p
judge f t Array = cond (pure_by f (inner t)) Stable Effectful

-- ---- the whole

-- a text without its comments, in strict mode or plain: cut outside quotes, or without regard to quotes
abbrev pub cut_in : Bool → List ℕ → List ℕ
cut_in true s = strip_quoted s
cut_in false s = strip_comments s

-- white space is trimmed; the purity of an array asks for its elements, and each element asks for purity again
abbrev pub cut_rule : (List ℕ → Bool) → (List ℕ → Purity) → List ℕ → Purity
cut_rule quoted f s = judge f (space_trim s) (shape_of quoted (space_trim s))

-- the same, where comments are cut before: at each level anew, as in the Rust
abbrev pub purity_rule : Bool → (List ℕ → Purity) → List ℕ → Purity
purity_rule strict f s = cut_rule (quoted_in strict) f (cut_in strict s)

-- `purity`, in strict mode or plain
unfoldable pub purity_in : Bool → List ℕ → Purity
purity_in strict = fix (purity_rule strict) Effectful length

-- `purity`, as the Rust has it
abbrev pub purity_of : List ℕ → Purity
purity_of = purity_in false
