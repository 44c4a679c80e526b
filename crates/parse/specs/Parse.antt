-- `parse` and `Line::text`: a line is a declaration, a store with its register and value, or other. Assumes nothing.
use Rattle.std.specs.Prelude.{ℕ, ◌+◌, ◌-◌, Bool, true, cond, not, ◌&&◌, List, [], ◌∷◌, length, take, drop, get_or, eqb, ltb}
use Prim.Native.Char.{code}
use Rattle.lines.specs.Ascii.{ascii}
use Rattle.lines.specs.Lf.{part, up_to, parts_of, prefixed, ends_in}
use Rattle.text.specs.Trim.{from_of, to_end, trim_of}
use Rattle.names.specs.Names.{reg_of, is_reg}
use Rattle.std.specs.declared.option.Option.{Option}
use Rattle.names.specs.declared.Register.{Register}
use Rattle.std.specs.declared.option.Option.TheVariants.{Some, None}
use Rattle.parse.specs.declared.Line.{Line}
use Rattle.parse.specs.declared.Line.TheVariants as line

-- ---- a declaration: `let `, names split at commas and trimmed, every one a register, then `;`

-- `let `
abbrev pub let_word : List ℕ
let_word = ascii "let "

-- what stands between `let ` and `;`
abbrev pub body_of : List ℕ → List ℕ
body_of t = part 4 (length t - 1) t

-- each piece, trimmed, names a register
unfoldable pub all_regs : List (List ℕ) → Bool
all_regs [] = true
all_regs (p ∷ ps) = is_reg (reg_of (trim_of p)) && all_regs ps

-- a trimmed line begins with `let `, and ends with `;`
unfoldable pub is_let : List ℕ → Bool
is_let t = ltb 4 (length t) && (prefixed let_word t && ends_in (code ";") t)

-- a trimmed line is a declaration
unfoldable pub is_decl : List ℕ → Bool
is_decl t = ltb 4 (length t) && (prefixed let_word t && (ends_in (code ";") t && all_regs (parts_of (code ",") (body_of t))))

-- ---- a store: ends in `;`; split at the first `=`; the left side trimmed is a register; the right side does not start with `=`

-- a store of the register that the left side names, where it names one; the right side begins at the place b.
-- (That the left side is not empty and does not end in `!`, `<`, `>` or `=`, which the Rust tests too, follows from its being a register.)
abbrev pub store_by : Option Register → ℕ → List ℕ → Line
store_by None b rhs = line.Other
store_by (Some q) b rhs = line.Store (record { reg = q; from = b + from_of rhs; to = b + to_end rhs })

-- without the last byte, split at the first `=`, of a text that begins at the place a
abbrev pub split_store : ℕ → List ℕ → Line
split_store a u =
    cond (ltb (up_to (code "=") u) (length u) && not (eqb (get_or u (up_to (code "=") u + 1) 0) (code "=")))
    (store_by (reg_of (trim_of (take (up_to (code "=") u) u))) (a + (up_to (code "=") u + 1)) (drop (up_to (code "=") u + 1) u)) line.Other

-- a trimmed line that is no declaration, and begins at the place a
unfoldable pub store_in : ℕ → List ℕ → Line
store_in a t = cond (ends_in (code ";") t) (split_store a (take (length t - 1) t)) line.Other

-- `parse`
unfoldable pub parse_of : List ℕ → Line
parse_of l = cond (is_decl (trim_of l)) line.Decl (store_in (from_of l) (trim_of l))

-- `Line::text`: the expression of a line, which is what it reads; a declaration has none
unfoldable pub text_of : List ℕ → Line → List ℕ
text_of l line.Decl = []
text_of l (line.Store s) = part s.from s.to l
text_of l line.Other = l
