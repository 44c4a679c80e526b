-- What the code of rebuild_calls does step by step. Assumes nothing.
use Rattle.std.specs.Prelude.{ℕ, suc, ◌≡◌, Bool, false, cond, not, ◌&&◌, ◌||◌, List, [], ◌∷◌, ◌++◌, eqb, length, get_or}
use Prim.Native.Char.{code}
use Rattle.lines.specs.Ascii.{ascii}
use Rattle.lines.specs.Lf.{holds}
use Rattle.lines.specs.Inner.Out.{Wrote}
use Rattle.std.specs.declared.option.Option.{Option}
use Rattle.std.specs.declared.option.Option.TheVariants.{Some, None}
use Rattle.forms.specs.Breaks.{breaks}
use Rattle.reading.specs.Reading.{Reading}
use Rattle.reading.specs.Uses.{line_reads}
use Rattle.calls.specs.LeavesOf.{context_of, leaves_of}
use Rattle.calls.specs.Calls.{Step, end, absorb, read_later, put_by}

-- a byte stands second in a word that a condition or a loop begins with
abbrev pub is_second : ℕ → Bool
is_second x = ((eqb x (code "h") || eqb x (code "o")) || eqb x (code "f")) || eqb x (code "w")

-- a line without the white space at its front may be one that a condition or a loop begins: by its second byte, a `:` or a `}`
unfoldable pub may_control : List ℕ → Bool
may_control t = is_second (get_or t 1 0) || (holds (ascii ":") t || holds (ascii "}") t)

-- one of the lines whose owner stands just below them all passes a test; an owner is told by how far below it stands
unfoldable pub breaks_down : (List ℕ → Bool) → List (List ℕ) → List ℕ → Bool
breaks_down f [] os = false
breaks_down f (l ∷ ls) [] = false
breaks_down f (l ∷ ls) (o ∷ os) = (eqb o (suc (length os)) && f l) || breaks_down f ls os

-- the step at a store of register v above a line that is `cur` now, where region, block and start of statement allow it. `taken` are the lines
-- between the two, and `owner` tells for each how far below it its owner stands.
unfoldable pub absorb_step : Reading → List ℕ → ℕ → List ℕ → List (List ℕ) → List (List ℕ) → List ℕ → Step
absorb_step R cur v value below taken owner =
    cond (eqb (line_reads v cur) 1 && (not (read_later (leaves_of R) v below) && not (breaks_down (breaks value) taken owner)))
    (put_by (leaves_of R) (context_of cur v) cur v value) end

-- a value in parentheses
abbrev pub wrapped_call : List ℕ → List ℕ
wrapped_call v = code "(" ∷ v ++ ascii ")"

-- a step in a lent buffer d, which is d' then and keeps its length: the line that it makes stands at the front of it, or there is none
pub data PutAs (d : List ℕ) : Step → List ℕ → Option ℕ → Type 0 where
  ends : {d' : List ℕ} → length d' ≡ length d → PutAs d end d' None
  puts : {next d₁ d' : List ℕ} {n : ℕ} → length d₁ ≡ length d → Wrote d₁ 0 next d' n → PutAs d (absorb next) d' (Some n)
