-- The two engines drop the same lines of every listing, in every reading, and those are the lines that `optimize_once` drops. Assumes nothing.
use Prim.Native.Nat.{ℕ}
use mathlib.Core.Path.{◌≡◌, refl, ap}
use mathlib.Core.Bool.{Bool, true, false, cond, not, ◌&&◌}
use mathlib.Core.List.{List, [], ◌∷◌}
use Rattle.lines.specs.Acts.{Act, keep, become, into, gone}
use Rattle.parse.specs.Parse.{parse_of}
use Rattle.parse.specs.declared.Line.{Line}
use Rattle.parse.specs.declared.Line.TheVariants as line
use Rattle.place.specs.Region.{region}
use Rattle.reading.specs.Reading.{Reading}
use Rattle.once.specs.Once.{Spot, spots, Next, next_use, dropped_by, dropped, forwards, next_run, taken_by, once_act, once_go, once_acts}
use Rattle.engines.specs.Engines.{plain_drops, plain_engine, table_above, swept, sweep_drops, sweep_engine}
use Rattle.once.specs.Inner.Tables.{marks_go, once_marks}
use Rattle.engines.specs.Inner.Flags.{goes_in}
use Rattle.once.proofs.Marks.{mark-goes}

-- ---- they are the same

-- the table of the sweep says what the search finds
pub swept-next : (ss : List Spot) (v : ℕ) → swept ss v ≡ next_use v ss
unfolding swept table_above next_use
swept-next [] v = refl
swept-next (s ∷ ss) v = rw (swept-next ss v)

-- two tables that say the same decide the same
by_next : (R : Reading) (f g : ℕ → Next) → ((v : ℕ) → f v ≡ g v) → (d : Spot) (below : List Spot) (k : Line) → dropped_by R f d below k ≡ dropped_by R g d below k
by_next R f g e d below line.Decl = refl
by_next R f g e d below (line.Store s) = rw (e s.reg.0)
by_next R f g e d below line.Other = refl

drops_same : (R : Reading) (ss : List Spot) → sweep_drops R ss ≡ plain_drops R ss
unfolding sweep_drops plain_drops dropped
drops_same R [] = refl
drops_same R (d ∷ ss) =
    rw (by_next R (swept ss) (λ (v : ℕ). next_use v ss) (swept-next ss) d ss (parse_of d.line))
    (ap (λ (r : List Bool). dropped_by R (λ (v : ℕ). next_use v ss) d ss (parse_of d.line) ∷ r) (drops_same R ss))

-- on every listing, in every reading
pub engines-same : (R : Reading) (ls : List (List ℕ)) → sweep_engine R ls ≡ plain_engine R ls
unfolding sweep_engine plain_engine
engines-same R ls = drops_same R (spots ls)

-- ---- both are what the pass drops

marks-drop : (R : Reading) (ss : List Spot) (run : List (List ℕ)) → goes_in (marks_go R ss run) ≡ plain_drops R ss
unfolding goes_in marks_go plain_drops
marks-drop R [] run = refl
marks-drop R (d ∷ ss) run = rw (mark-goes R run d ss) (ap (λ (r : List Bool). dropped R d ss ∷ r) (marks-drop R ss (next_run ss run)))

-- the marks that the pass leaves say so
pub engine-marks : (R : Reading) (ls : List (List ℕ)) → goes_in (once_marks R ls) ≡ plain_engine R ls
unfolding once_marks plain_engine
engine-marks R ls = marks-drop R (spots ls) (region ls)

-- whether each act is that the line goes
abbrev is_gone : Act → Bool
is_gone keep = false
is_gone (become l) = false
is_gone (into n) = false
is_gone gone = true

unfoldable pub gone_in : List Act → List Bool
gone_in [] = []
gone_in (a ∷ as') = is_gone a ∷ gone_in as'

gone-by : (R : Reading) (given : Bool) (above : List ℕ) (run after : List (List ℕ)) (d : Spot) (ss : List Spot) → is_gone (once_act R given above run after d ss) ≡ dropped R d ss
unfolding once_act
gone-by R given above run after d ss = go (dropped R d ss) (forwards R run (d ∷ ss)) (forwards R after ss) given (taken_by above (parse_of above) d.line)
  where
    go : (a b c g : Bool) (t : List ℕ) → is_gone (cond a gone (cond b (cond c keep (into 1)) (cond g (become t) keep))) ≡ a
    go true b c g t = refl
    go false true true g t = refl
    go false true false g t = refl
    go false false c true t = refl
    go false false c false t = refl

acts-drop : (R : Reading) (ss : List Spot) (given : Bool) (above : List ℕ) (run : List (List ℕ)) → gone_in (once_go R ss given above run) ≡ plain_drops R ss
unfolding gone_in once_go plain_drops
acts-drop R [] given above run = refl
acts-drop R (d ∷ ss) given above run =
    rw (gone-by R given above run (next_run ss run) d ss)
    (ap (λ (r : List Bool). dropped R d ss ∷ r) (acts-drop R ss (forwards R run (d ∷ ss) && not (forwards R (next_run ss run) ss)) d.line (next_run ss run)))

-- and so do its acts: a line is gone exactly where the engines say that it goes
pub engine-acts : (R : Reading) (ls : List (List ℕ)) → gone_in (once_acts R ls) ≡ plain_engine R ls
unfolding once_acts plain_engine
engine-acts R ls = acts-drop R (spots ls) false [] (region ls)
