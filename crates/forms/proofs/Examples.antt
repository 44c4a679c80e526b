-- Values, whether each is a plain reference, and whether it is a primary expression, as one table with one statement. Assumes nothing.
use Prim.Native.Nat.{ℕ}
use mathlib.Core.Path.{◌≡◌, refl}
use mathlib.Core.Bool.{Bool, true, false, beq, ◌&&◌}
use mathlib.Core.List.{List, [], ◌∷◌}
use Rattle.lines.specs.Lf.{prefixed, cut_on, parts_of, all}
use Rattle.text.specs.White.{is_white}
use Rattle.text.specs.Utf8Form.{seq_len}
use Rattle.text.specs.Trim.{white_char, white_head, white_tail, lead, from_of, end_white, to_of, trim_of}
use Rattle.names.specs.Names.{is_ident}
use Rattle.lexical.specs.Lex.{quote_len}
use Rattle.forms.specs.Primary.{all_idents, is_plain_ref, bare_go, primary, is_primary}

-- `a.b` is plain, and is primary
-- `a.` is not plain, and is primary
-- `f(x)` is not plain, and is primary
-- `a + b` is not plain, and is not primary
-- `"a + b"` is not plain, and is primary
-- `-x` is not plain, and is not primary
-- `[a, b]` is not plain, and is primary
-- `yieldx` is plain, and is not primary
-- `(a)(b)` is not plain, and is primary
-- `a)+b` is not plain, and is primary
unfoldable pub table : List (List ℕ × (Bool × Bool))
table =
    (97 ∷ 46 ∷ 98 ∷ [], (true, true))
    ∷ (97 ∷ 46 ∷ [], (false, true))
    ∷ (102 ∷ 40 ∷ 120 ∷ 41 ∷ [], (false, true))
    ∷ (97 ∷ 32 ∷ 43 ∷ 32 ∷ 98 ∷ [], (false, false))
    ∷ (34 ∷ 97 ∷ 32 ∷ 43 ∷ 32 ∷ 98 ∷ 34 ∷ [], (false, true))
    ∷ (45 ∷ 120 ∷ [], (false, false))
    ∷ (91 ∷ 97 ∷ 44 ∷ 32 ∷ 98 ∷ 93 ∷ [], (false, true))
    ∷ (121 ∷ 105 ∷ 101 ∷ 108 ∷ 100 ∷ 120 ∷ [], (true, false))
    ∷ (40 ∷ 97 ∷ 41 ∷ 40 ∷ 98 ∷ 41 ∷ [], (false, true))
    ∷ (97 ∷ 41 ∷ 43 ∷ 98 ∷ [], (false, true))
    ∷ []

pub judges : all (λ (v : List ℕ × (Bool × Bool)). beq (is_plain_ref v.0) v.1.0 && beq (is_primary v.0) v.1.1) table ≡ true
unfolding table is_plain_ref all_idents is_ident primary bare_go quote_len prefixed parts_of cut_on trim_of from_of lead white_head to_of end_white white_tail white_char seq_len is_white
judges = refl
