-- `x.strip_suffix(';').and_then(|x| x.split_once('='))`: a text that ends in `;`, split at its first `=`. Assumes nothing.
use Rattle.std.specs.Prelude.{ℕ, suc, ◌-◌, Bool, ◌&&◌, List, length, take, drop, ltb}
use Prim.Native.Char.{code}
use Rattle.lines.specs.Lf.{up_to, ends_in}
use Rattle.text.specs.Trim.{trim_of}

-- the text without its last byte
abbrev pub unended : List ℕ → List ℕ
unended t = take (length t - 1) t

-- it ends in `;`, and an `=` stands before that
unfoldable pub is_assign : List ℕ → Bool
is_assign t = ends_in (code ";") t && ltb (up_to (code "=") (unended t)) (length (unended t))

-- its left side, trimmed
unfoldable pub left_of : List ℕ → List ℕ
left_of t = trim_of (take (up_to (code "=") (unended t)) (unended t))

-- its right side, trimmed
unfoldable pub right_of : List ℕ → List ℕ
right_of t = trim_of (drop (suc (up_to (code "=") (unended t))) (unended t))
