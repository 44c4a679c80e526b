-- `block_ids`, over lines that are cleaned already: every brace counts. Assumes nothing.
use Rattle.std.specs.Prelude.{ℕ, suc, cond, List, [], ◌∷◌, drop, eqb}
use Prim.Native.Char.{code}
use Rattle.lexical.specs.Lex.{strip_lexical}

-- what a byte does to blocks
pub data Brace : Type 0 where
  opens : Brace
  closes : Brace
  neither : Brace

-- `{` opens one, and `}` closes one
unfoldable pub brace_of : ℕ → Brace
brace_of x = cond (eqb x (code "{")) opens (cond (eqb x (code "}")) closes neither)

-- the numbers of the open blocks, the innermost first; the Rust's 0 at the bottom is left out, and n is the next number
unfoldable pub push : Brace → ℕ → List ℕ → List ℕ
push opens n s = n ∷ s
push closes n s = drop 1 s
push neither n s = s

-- the next number after a brace
unfoldable pub count : Brace → ℕ → ℕ
count opens n = suc n
count closes n = n
count neither n = n

-- the block that is open: 0 outside all
unfoldable pub top : List ℕ → ℕ
top [] = 0
top (x ∷ s) = x

-- the open blocks after the bytes of a line
unfoldable pub stack_after : List ℕ → ℕ → List ℕ → List ℕ
unfolding push count
stack_after [] n s = s
stack_after (x ∷ xs) n s = stack_after xs (count (brace_of x) n) (push (brace_of x) n s)

-- the next number after the bytes of a line
unfoldable pub next_after : List ℕ → ℕ → ℕ
unfolding count
next_after [] n = n
next_after (x ∷ xs) n = next_after xs (count (brace_of x) n)

-- the block in which each line begins
unfoldable pub blocks_go : List (List ℕ) → ℕ → List ℕ → List ℕ
unfolding top stack_after next_after
blocks_go [] n s = []
blocks_go (l ∷ ls) n s = top s ∷ blocks_go ls (next_after l n) (stack_after l n s)

-- from the first line on, with no block open
unfoldable pub blocks : List (List ℕ) → List ℕ
unfolding blocks_go
blocks ls = blocks_go ls 1 []

-- each line cleaned by itself
unfoldable pub cleaned : List (List ℕ) → List (List ℕ)
cleaned [] = []
cleaned (l ∷ ls) = strip_lexical l ∷ cleaned ls
