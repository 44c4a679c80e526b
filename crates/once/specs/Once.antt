-- `optimize_once`: dead stores and scratch loads go, a value that is read once on the next line goes there, then `prune_decls`. Assumes nothing.
use Rattle.std.specs.Prelude.{ℕ, ◌+◌, Bool, true, false, cond, not, ◌&&◌, ◌||◌, List, [], ◌∷◌, eqb, ltb}
use Rattle.lines.specs.Acts.{Act, keep, become, into, gone, apply}
use Rattle.parse.specs.Parse.{parse_of, text_of}
use Rattle.parse.specs.declared.Line.{Line}
use Rattle.parse.specs.declared.Line.TheVariants as line
use Rattle.place.specs.Region.{is_header, region, region_at}
use Rattle.place.specs.Paths.{block_paths, tops}
use Rattle.place.specs.Loops.{inside_loop}
use Rattle.words.specs.Hits.{replace_reg}
use Rattle.decls.specs.Decls.{prune_decls}
use Rattle.reading.specs.Reading.{Reading, pure_in}
use Rattle.reading.specs.Uses.{line_reads, line_stores}
use Rattle.once.specs.Scratch.{scratch_at}

-- a line, the innermost block of its path (it decides the path), and whether it stands in a loop
pub record Spot : Type 0 where
  pub line : List ℕ
  pub path : ℕ
  pub loop : Bool

unfoldable pub spots_of : List (List ℕ) → List ℕ → List Bool → List Spot
spots_of [] ps bs = []
spots_of (l ∷ ls) [] bs = []
spots_of (l ∷ ls) (p ∷ ps) [] = []
spots_of (l ∷ ls) (p ∷ ps) (b ∷ bs) = record { line = l; path = p; loop = b } ∷ spots_of ls ps bs

unfoldable pub spots : List (List ℕ) → List Spot
unfolding spots_of
spots ls = spots_of ls (tops (block_paths ls)) (inside_loop ls)

unfoldable pub lines_in : List Spot → List (List ℕ)
lines_in [] = []
lines_in (s ∷ ss) = s.line ∷ lines_in ss

-- ---- a dead store

-- the nearest line below in the region that reads or stores register v: none, a read, or a store in block path p that does not read it
pub data Next : Type 0 where
  none : Next
  read : Next
  write : ℕ → Next

unfoldable pub next_use : ℕ → List Spot → Next
next_use v [] = none
next_use v (s ∷ ss) =
    let more = next_use v ss in
    let stored = cond (line_stores v s.line) (write s.path) more in
    cond (is_header s.line) none (cond (ltb 0 (line_reads v s.line)) read stored)

-- the value of a store in block path p is wanted by nothing
abbrev pub dead_by : ℕ → Next → Bool
dead_by p none = true
dead_by p read = false
dead_by p (write q) = eqb p q

-- a line, as it was read, goes, where `next` says what is done next below with each register: a scratch load, or a dead store
abbrev pub dropped_by : Reading → (ℕ → Next) → Spot → List Spot → Line → Bool
dropped_by R next d below line.Decl = false
dropped_by R next d below (line.Store s) =
    let v : ℕ = s.reg.0 in
    let x : List ℕ = text_of d.line (line.Store s) in
    scratch_at v x (lines_in below)
    || (dead_by d.path (next v) && (pure_in R x && (not d.loop && eqb (line_reads v d.line) 0)))
dropped_by R next d below line.Other = false

-- a line goes, by what is found below it
unfoldable pub dropped : Reading → Spot → List Spot → Bool
unfolding next_use
dropped R d below = dropped_by R (λ (v : ℕ). next_use v below) d below (parse_of d.line)

-- ---- forwarding, one line down

-- how often lines read register v
unfoldable pub read_count : ℕ → List (List ℕ) → ℕ
read_count v [] = 0
read_count v (l ∷ ls) = line_reads v l + read_count v ls

-- a read of register v before it is stored again, in all lines below, whatever their region
unfoldable pub later_read : ℕ → List (List ℕ) → Bool
later_read v [] = false
later_read v (l ∷ ls) =
    let more = later_read v ls in
    not (line_stores v l) && (ltb 0 (line_reads v l) || more)

abbrev pub some : List (List ℕ) → Bool
some [] = false
some (x ∷ xs) = true

-- a store d of register v with the value x, whose region is run, may go into the next line e, above `below`
abbrev pub forward_to : Reading → ℕ → List ℕ → List (List ℕ) → Spot → Spot → List Spot → Bool
forward_to R v x run d e below =
    not d.loop
    && (not (dropped R e below)
    && (not (line_stores v e.line)
    && (eqb (line_reads v e.line) 1
    && (not (later_read v (lines_in below))
    && (pure_in R x && (eqb (read_count v run) 1 && some (replace_reg v e.line x)))))))

abbrev pub forward_by : Reading → List (List ℕ) → Spot → Spot → List Spot → Line → Bool
forward_by R run d e below line.Decl = false
forward_by R run d e below (line.Store s) =
    not (dropped R d (e ∷ below)) && forward_to R s.reg.0 (text_of d.line (line.Store s)) run d e below
forward_by R run d e below line.Other = false

-- the first line goes into the second; run is the first's region
unfoldable pub forwards : Reading → List (List ℕ) → List Spot → Bool
unfolding dropped read_count later_read
forwards R run [] = false
forwards R run (d ∷ []) = false
forwards R run (d ∷ e ∷ below) = forward_by R run d e below (parse_of d.line)

-- ---- the acts. In a chain of forwards only the last one is done

-- the line with the value of the line above in it
abbrev pub first_of : List (List ℕ) → List ℕ → List ℕ
first_of [] l = l
first_of (x ∷ xs) l = x

abbrev pub taken_by : List ℕ → Line → List ℕ → List ℕ
taken_by above line.Decl l = l
taken_by above (line.Store s) l = first_of (replace_reg s.reg.0 l (text_of above (line.Store s))) l
taken_by above line.Other l = l

-- what becomes of the first line; `given` says whether the line above, `above`, goes into it; run is its region, and `after` that of the next
unfoldable pub once_act : Reading → Bool → List ℕ → List (List ℕ) → List (List ℕ) → Spot → List Spot → Act
unfolding dropped forwards
once_act R given above run after d below =
    cond (dropped R d below) gone
    (cond (forwards R run (d ∷ below)) (cond (forwards R after below) keep (into 1))
    (cond given (become (taken_by above (parse_of above) d.line)) keep))

-- the region of the next line
abbrev pub next_run : List Spot → List (List ℕ) → List (List ℕ)
next_run [] run = run
next_run (e ∷ ss) run = region_at e.line (lines_in ss) run

unfoldable pub once_go : Reading → List Spot → Bool → List ℕ → List (List ℕ) → List Act
unfolding once_act
once_go R [] given above run = []
once_go R (d ∷ ss) given above run =
    once_act R given above run (next_run ss run) d ss
    ∷ once_go R ss (forwards R run (d ∷ ss) && not (forwards R (next_run ss run) ss)) d.line (next_run ss run)

unfoldable pub once_acts : Reading → List (List ℕ) → List Act
unfolding once_go spots
once_acts R ls = once_go R (spots ls) false [] (region ls)

-- the pass: its own acts, then those of `prune_decls` on what they gave
unfoldable pub optimize_once : Reading → List (List ℕ) → List (List ℕ)
unfolding once_acts apply prune_decls
optimize_once R ls = prune_decls (apply (once_acts R ls) ls)
