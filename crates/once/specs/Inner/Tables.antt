-- The searches of `optimize_once` over lines and a table of numbers beside them. Assumes nothing.
use Rattle.std.specs.Prelude.{ℕ, ◌≤◌, ◌≡◌, Bool, true, false, cond, not, ◌&&◌, ◌||◌, List, [], ◌∷◌, ◌++◌, eqb, ltb, length, take, drop, replicate}
use Rattle.lines.specs.Ascii.{ascii}
use Rattle.parse.specs.Parse.{parse_of, text_of}
use Rattle.parse.specs.declared.Line.{Line}
use Rattle.parse.specs.declared.Line.TheVariants as line
use Rattle.words.specs.Runs.{reads_of}
use Rattle.words.specs.Hits.{reg_hit}
use Rattle.std.specs.declared.option.Option.{Option}
use Rattle.text.specs.declared.Span.{Span}
use Rattle.std.specs.declared.option.Option.TheVariants.{Some, None}
use Rattle.reading.specs.Reading.{Reading, pure_in}
use Rattle.lines.specs.Acts.{Act, keep, become, into, gone}
use Rattle.lines.specs.Lf.{part, holds}
use Rattle.place.specs.Region.{is_header, region, region_at}
use Rattle.place.specs.Blocks.{top}
use Rattle.reading.specs.Uses.{line_reads, line_stores}
use Rattle.once.specs.Scratch.{scratch_at}
use Rattle.once.specs.Once.{Next, none, read, write, dead_by, read_count, later_read, Spot, spots, dropped, forwards, taken_by, next_run}

-- a read of register v before it is stored again: in all lines below, or down to the end of the region
unfoldable pub read_below : Bool → ℕ → List (List ℕ) → Bool
read_below far v [] = false
read_below far v (l ∷ ls) =
    let more = read_below far v ls in
    let on = not (line_stores v l) && (ltb 0 (line_reads v l) || more) in
    cond (not far && is_header l) false on

-- the nearest use below, where the numbers of the block paths stand in a list of their own
unfoldable pub next_in : ℕ → List (List ℕ) → List ℕ → Next
next_in v [] ps = none
next_in v (l ∷ ls) [] = none
next_in v (l ∷ ls) (p ∷ ps) =
    let more = next_in v ls ps in
    let stored = cond (line_stores v l) (write p) more in
    cond (is_header l) none (cond (ltb 0 (line_reads v l)) read stored)

-- some line of the region holds the call of x, `x(`
unfoldable pub any_call : List ℕ → List (List ℕ) → Bool
any_call x [] = false
any_call x (l ∷ ls) =
    let more = any_call x ls in
    cond (is_header l) false (holds (x ++ ascii "(") l || more)

-- ---- the same tests on one line, over the lines below it and their numbers

-- scratch whose first n bytes are there, and zeros
pub record Zeroed (n : ℕ) (d : List ℕ) : Type 0 where
  pub room : n ≤ length d
  pub zeros : take n d ≡ replicate n 0

-- a store of register v with the value x, in block path p, goes: a scratch load, or a dead store
unfoldable pub store_drops : Reading → ℕ → List ℕ → ℕ → Bool → List (List ℕ) → List ℕ → Bool
store_drops R v x p b ls ps =
    scratch_at v x ls || (dead_by p (next_in v ls ps) && (pure_in R x && (not b && eqb (reads_of v x) 0)))

-- a line, as it was read, goes
abbrev pub drops_by : Reading → List ℕ → ℕ → Bool → List (List ℕ) → List ℕ → Line → Bool
drops_by R l p b ls ps line.Decl = false
drops_by R l p b ls ps (line.Store s) = store_drops R s.reg.0 (text_of l (line.Store s)) p b ls ps
drops_by R l p b ls ps line.Other = false

-- a line goes
unfoldable pub line_drops : Reading → List ℕ → ℕ → Bool → List (List ℕ) → List ℕ → Bool
line_drops R l p b ls ps = drops_by R l p b ls ps (parse_of l)

-- a search found one place
abbrev pub has_hit : Option Span → Bool
has_hit None = false
has_hit (Some w) = true

-- a store of register v with the value x, whose region is run, goes into the next line e, above ls; `goes` says whether that one goes
unfoldable pub store_forwards : Reading → ℕ → List ℕ → List (List ℕ) → Bool → Bool → List ℕ → List (List ℕ) → Bool
store_forwards R v x run b goes e ls =
    not b
    && (not goes
    && (not (line_stores v e)
    && (eqb (line_reads v e) 1
    && (not (later_read v ls) && (pure_in R x && (eqb (read_count v run) 1 && has_hit (reg_hit v e)))))))

-- a line, as it was read, goes into the next
abbrev pub forwards_by : Reading → List ℕ → List (List ℕ) → Bool → Bool → List ℕ → List (List ℕ) → Line → Bool
forwards_by R l run b goes e ls line.Decl = false
forwards_by R l run b goes e ls (line.Store s) = store_forwards R s.reg.0 (text_of l (line.Store s)) run b goes e ls
forwards_by R l run b goes e ls line.Other = false

-- a line that stays goes into the next
unfoldable pub line_forwards : Reading → List ℕ → List (List ℕ) → Bool → Bool → List ℕ → List (List ℕ) → Bool
line_forwards R l run b goes e ls = forwards_by R l run b goes e ls (parse_of l)

-- ---- a mark for each line, and the acts by the marks

-- it stays, it goes, or it would go into the next line
abbrev pub mark_stays : ℕ
mark_stays = 0

abbrev pub mark_goes : ℕ
mark_goes = 1

abbrev pub mark_sends : ℕ
mark_sends = 2

-- that of a line whose region is run
unfoldable pub mark_of : Reading → List (List ℕ) → Spot → List Spot → ℕ
mark_of R run d ss = cond (dropped R d ss) mark_goes (cond (forwards R run (d ∷ ss)) mark_sends mark_stays)

-- the marks of lines; run is the region of the first
unfoldable pub marks_go : Reading → List Spot → List (List ℕ) → List ℕ
unfolding mark_of
marks_go R [] run = []
marks_go R (d ∷ ss) run = mark_of R run d ss ∷ marks_go R ss (next_run ss run)

-- the marks of a listing
unfoldable pub once_marks : Reading → List (List ℕ) → List ℕ
unfolding marks_go
once_marks R ls = marks_go R (spots ls) (region ls)

-- a line goes into the next: it would, and the next would not
abbrev pub sends : ℕ → ℕ → Bool
sends m n = eqb m mark_sends && not (eqb n mark_sends)

-- what becomes of a line with the mark m, where n is that of the next line, and `given` says whether the line above goes into it
abbrev pub act_by : ℕ → ℕ → Bool → List ℕ → List ℕ → Act
act_by m n given above l =
    cond (eqb m mark_goes) gone
    (cond (eqb m mark_sends) (cond (eqb n mark_sends) keep (into 1))
    (cond given (become (taken_by above (parse_of above) l)) keep))

-- the acts of lines with their marks; where a mark is missing, the line stays
unfoldable pub acts_by : List (List ℕ) → List ℕ → Bool → List ℕ → List Act
unfolding top
acts_by [] ms given above = []
acts_by (l ∷ ls) ms given above =
    act_by (top ms) (top (drop 1 ms)) given above l ∷ acts_by ls (drop 1 ms) (sends (top ms) (top (drop 1 ms))) l

-- ---- the marks, over tables of the block paths and of the loops

-- an entry of a table of tests
abbrev pub is_set : ℕ → Bool
is_set f = not (eqb f 0)

-- the first line goes; ps are the block paths of the lines, and b says whether the first stands in a loop
unfoldable pub first_drops : Reading → List (List ℕ) → List ℕ → Bool → Bool
first_drops R [] ps b = false
first_drops R (l ∷ ls) [] b = false
first_drops R (l ∷ ls) (p ∷ ps) b = line_drops R l p b ls ps

-- a line that stays, whose region is run, goes into the first line below, which goes itself where `goes` says so
unfoldable pub first_takes : Reading → List ℕ → List (List ℕ) → Bool → Bool → List (List ℕ) → Bool
first_takes R l run b goes [] = false
first_takes R l run b goes (e ∷ ls) = line_forwards R l run b goes e ls

-- the mark of a line that goes, or would go into the next
abbrev pub mark_by : Bool → Bool → ℕ
mark_by goes sent = cond goes mark_goes (cond sent mark_sends mark_stays)

-- the mark of the first line, whose region is run; ps are the block paths of the lines, and fs say whether each stands in a loop
unfoldable pub first_mark : Reading → List (List ℕ) → List ℕ → List ℕ → List (List ℕ) → ℕ
first_mark R [] ps fs run = mark_stays
first_mark R (l ∷ ls) ps fs run =
    mark_by (first_drops R (l ∷ ls) ps (is_set (top fs))) (first_takes R l run (is_set (top fs)) (first_drops R ls (drop 1 ps) (is_set (top (drop 1 fs)))) ls)

-- the marks of lines; `goes` says whether the first goes, and run is the region of the line above
unfoldable pub marks_in : Reading → List (List ℕ) → List ℕ → List ℕ → Bool → List (List ℕ) → List ℕ
unfolding first_drops first_takes
marks_in R [] ps fs goes run = []
marks_in R (l ∷ ls) ps fs goes run =
    let next = first_drops R ls (drop 1 ps) (is_set (top (drop 1 fs))) in
    mark_by goes (first_takes R l (region_at l ls run) (is_set (top fs)) next ls) ∷ marks_in R ls (drop 1 ps) (drop 1 fs) next (region_at l ls run)

-- the marks of all lines
unfoldable pub marks_of : Reading → List (List ℕ) → List ℕ → List ℕ → List ℕ
unfolding marks_in
marks_of R ls ps fs = marks_in R ls ps fs (first_drops R ls ps (is_set (top fs))) (region ls)

-- where the region of the line from i to e of a text begins, given where that of the line above does
unfoldable pub area_at : List ℕ → ℕ → ℕ → ℕ → ℕ
area_at t i e above = cond (is_header (part i e t)) i above
