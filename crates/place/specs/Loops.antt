-- `inside_loop`: whether a line stands in the body of a loop, by the `{` at the end of a trimmed line and every `}` in it. Assumes nothing.
use Rattle.std.specs.Prelude.{ℕ, Bool, false, cond, ◌||◌, List, [], ◌∷◌, drop}
use Prim.Native.Char.{code}
use Rattle.lines.specs.Ascii.{ascii}
use Rattle.lines.specs.Lf.{count_of, prefixed, suffixed, same, holds, ends_in}
use Rattle.text.specs.Trim.{trim_of}

-- a trimmed line begins a loop
unfoldable pub opens_loop : List ℕ → Bool
opens_loop t =
    prefixed (ascii "while (") t
    || (prefixed (ascii "while(") t
    || (prefixed (ascii "for (") t
    || (prefixed (ascii "for(") t
    || (same t (ascii "do {")
    || (suffixed (ascii " do {") t
    || (holds (ascii ": while (") t || holds (ascii ": for (") t))))))

-- one of the open blocks is a loop's
unfoldable pub any_loop : List Bool → Bool
any_loop [] = false
any_loop (b ∷ bs) = b || any_loop bs

-- the open blocks after a trimmed line, each with whether it is a loop's, the innermost first
unfoldable pub loops_after : List ℕ → List Bool → List Bool
unfolding opens_loop
loops_after t s = drop (count_of (code "}") t) (cond (ends_in (code "{") t) (opens_loop t ∷ s) s)

-- for each line whether a loop's block is open where it begins
unfoldable pub loops_go : List (List ℕ) → List Bool → List Bool
unfolding any_loop loops_after
loops_go [] s = []
loops_go (l ∷ ls) s = any_loop s ∷ loops_go ls (loops_after (trim_of l) s)

-- `inside_loop`
unfoldable pub inside_loop : List (List ℕ) → List Bool
unfolding loops_go
inside_loop ls = loops_go ls []
