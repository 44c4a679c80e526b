-- `is_ident_byte`, the quotes of `strip_lexical` and its `regex_prev`: the classes of bytes.
use Rattle.std.specs.Prelude.{ℕ, Bool, ◌||◌, eqb}
use Prim.Native.Char.{code}
use Rattle.lines.specs.Ascii.{ascii}
use Rattle.lines.specs.Lf.{within, among}

-- `is_ident_byte`: an ASCII digit or letter, `_` or `$`
abbrev pub is_name : ℕ → Bool
is_name b = within (code "0") (code "9") b || within (code "A") (code "Z") b || within (code "a") (code "z") b || eqb b (code "_") || eqb b (code "$")

-- `"`, `'` or a backtick
abbrev pub is_quote : ℕ → Bool
is_quote b = among (ascii "\"'`") b

-- `regex_prev`: one of `=(,:[!&|?{};+-*%^~<>`
abbrev pub opens_pattern : ℕ → Bool
opens_pattern b =
    among (ascii "=(,:[!&|?{};+-*%^~<>") b
