-- `block_paths`: the chain of open blocks, by the brace at either end of a trimmed line. Assumes nothing.
use Rattle.std.specs.Prelude.{ℕ, suc, ◌-◌, cond, List, [], ◌∷◌, drop}
use Prim.Native.Char.{code}
use Rattle.lines.specs.Ascii.{ascii}
use Rattle.lines.specs.Lf.{count_of, prefixed, ends_in}
use Rattle.text.specs.Trim.{trim_of}
use Rattle.place.specs.Blocks.{top}

-- how many blocks a trimmed line closes: as many as it has `}`, where it starts with one; one less where it ends in `{`
unfoldable pub path_closes : List ℕ → ℕ
path_closes t = cond (prefixed (ascii "}") t) (count_of (code "}") t - cond (ends_in (code "{") t) 1 0) 0

-- the open blocks after a trimmed line: it opens one where it ends in `{`
unfoldable pub path_after : List ℕ → ℕ → List ℕ → List ℕ
path_after t n s = cond (ends_in (code "{") t) (n ∷ s) s

-- the next number after a trimmed line
unfoldable pub path_next : List ℕ → ℕ → ℕ
path_next t n = cond (ends_in (code "{") t) (suc n) n

-- the path of each line, the innermost block first, noted when the line has closed its blocks; n is the next number (the Rust's plus one)
unfoldable pub paths_go : List (List ℕ) → ℕ → List ℕ → List (List ℕ)
unfolding path_closes path_after path_next
paths_go [] n s = []
paths_go (l ∷ ls) n s =
    drop (path_closes (trim_of l)) s
    ∷ paths_go ls (path_next (trim_of l) n) (path_after (trim_of l) n (drop (path_closes (trim_of l)) s))

-- `block_paths`
unfoldable pub block_paths : List (List ℕ) → List (List ℕ)
unfolding paths_go
block_paths ls = paths_go ls 1 []

-- the innermost block of each path, 0 for none: it decides the path
unfoldable pub tops : List (List ℕ) → List ℕ
unfolding top
tops [] = []
tops (s ∷ ss) = top s ∷ tops ss
