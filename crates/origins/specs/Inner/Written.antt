-- What is said of lines by a table of codes, the lines that came out taken in step. Assumes nothing.
use Rattle.std.specs.Prelude.{ℕ, suc, ◌-◌, Bool, cond, ◌&&◌, ◌||◌, List, [], ◌∷◌, length, get_or, drop, eqb, ltb}
use Prim.Native.Char.{code}
use Rattle.lines.specs.Ascii.{ascii}
use Rattle.lines.specs.Lf.{up_to, same, prefixed}
use Rattle.origins.specs.declared.Went.{Went}
use Rattle.origins.specs.declared.Went.TheVariants.{Equal, Changed, Inside, Away}
use Rattle.origins.specs.Inner.Codes.{far_move, half}

-- of the line l by its code c, where o is the next line that came out
unfoldable pub said_one : List ℕ → List ℕ → ℕ → Went
said_one l o c = cond (ltb c half) (cond (same l o) (Equal c) (Changed c)) (cond (eqb c far_move) Away (Inside (c - half)))

-- the lines that came out below a line of the code c
unfoldable pub left_over : ℕ → List (List ℕ) → List (List ℕ)
left_over c out = cond (ltb c half) (drop 1 out) out

unfoldable pub wents_by : List (List ℕ) → List (List ℕ) → List ℕ → List Went
unfolding said_one left_over
wents_by out [] cs = []
wents_by out (l ∷ ls) [] = []
wents_by out (l ∷ ls) (c ∷ cs) = said_one l (get_or out 0 []) c ∷ wents_by (left_over c out) ls cs

-- how long the first line of a raw text is: up to an LF, or to a CR just before it
unfoldable pub bare_len : List ℕ → ℕ
bare_len [] = 0
bare_len (x ∷ xs) =
    let more = bare_len xs in
    cond (eqb x (code "\n") || (eqb x (code "\r") && prefixed (ascii "\n") xs)) 0 (suc more)

-- where it ends, by the place of its LF: one before it where a CR stands there
unfoldable pub bare_by : List ℕ → ℕ → ℕ
bare_by s n = cond (ltb 0 n && (ltb n (length s) && eqb (get_or s (n - 1) 0) (code "\r"))) (n - 1) n

-- ---- the same where s has the lines that came out, from the next on

-- the line l stands at its front, and an LF or nothing behind it
unfoldable pub first_is : List ℕ → List ℕ → Bool
unfolding prefixed
first_is l s = prefixed l s && eqb (get_or s (length l) (code "\n")) (code "\n")

-- how long the first line of it is: as long as the line l, where it is this one
unfoldable pub first_end : List ℕ → List ℕ → ℕ
unfolding first_is
first_end l s = cond (first_is l s) (length l) (up_to (code "\n") s)

unfoldable pub said_first : List ℕ → List ℕ → ℕ → Went
unfolding first_is
said_first l s c = cond (ltb c half) (cond (first_is l s) (Equal c) (Changed c)) (cond (eqb c far_move) Away (Inside (c - half)))
