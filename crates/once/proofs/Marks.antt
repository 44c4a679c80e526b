-- The tests on one line are those of the definition, and the acts by marks are its acts. Assumes nothing.
use Prim.Native.Nat.{ℕ, ◌≤◌}
use mathlib.Core.Path.{◌≡◌, refl, sym, ap}
use mathlib.Core.Bool.{Bool, true, false, cond, not, ◌&&◌}
use mathlib.Core.List.{List, [], ◌∷◌}
use lib.Dec.{eqb}
use lib.ListN.{length}
use Rattle.lines.specs.Acts.{Act}
use Rattle.parse.specs.Parse.{parse_of, text_of}
use Rattle.parse.specs.declared.Line.{Line}
use Rattle.parse.specs.declared.Line.TheVariants as line
use Rattle.place.specs.Blocks.{top}
use Rattle.words.specs.Runs.{reads_of}
use Rattle.words.specs.Hits.{reg_hit, replace_reg, replace_by}
use Rattle.std.specs.declared.option.Option.{Option}
use Rattle.text.specs.declared.Span.{Span}
use Rattle.std.specs.declared.option.Option.TheVariants.{Some, None}
use Rattle.reading.specs.Reading.{Reading}
use Rattle.reading.specs.Uses.{line_reads}
use Rattle.once.specs.Once.{Spot, spots_of, lines_in, next_use, dropped_by, dropped, some, forward_by, forwards, once_act, once_go, next_run}
use Rattle.once.specs.Inner.Tables.{store_drops, drops_by, line_drops, has_hit, store_forwards, forwards_by, line_forwards, mark_of, marks_go, acts_by}
use Rattle.once.proofs.Searches.{next-in, lines-in}

-- ---- a line that goes

reads-value : (l : List ℕ) (k : Line) (v : ℕ) → k ≡ parse_of l → line_reads v l ≡ reads_of v (text_of l k)
unfolding line_reads
reads-value l k v q = ap (λ (z : Line). reads_of v (text_of l z)) (sym q)

-- one test by its lines, numbers and flags
pub drops-is : (R : Reading) (d : Spot) (ls : List (List ℕ)) (ps : List ℕ) (bs : List Bool) → length ls ≤ length ps → length ls ≤ length bs →
    line_drops R d.line d.path d.loop ls ps ≡ dropped R d (spots_of ls ps bs)
unfolding line_drops dropped store_drops
drops-is R d ls ps bs g h = go (parse_of d.line) refl
  where
    go : (k : Line) → k ≡ parse_of d.line → drops_by R d.line d.path d.loop ls ps k ≡ dropped_by R (λ (v : ℕ). next_use v (spots_of ls ps bs)) d (spots_of ls ps bs) k
    go line.Decl q = refl
    go (line.Store s) q = rw (next-in s.reg.0 ls ps bs h, lines-in ls ps bs g h, reads-value d.line (line.Store s) s.reg.0 q)
    go line.Other q = refl

-- ---- a line that goes into the next

hit-some : (h : Option Span) (l x : List ℕ) → has_hit h ≡ some (replace_by h l x)
hit-some None l x = refl
hit-some (Some w) l x = refl

replace-some : (v : ℕ) (l x : List ℕ) → has_hit (reg_hit v l) ≡ some (replace_reg v l x)
unfolding replace_reg
replace-some v l x = hit-some (reg_hit v l) l x

pub forwards-is : (R : Reading) (run : List (List ℕ)) (d e : Spot) (ls : List (List ℕ)) (ps : List ℕ) (bs : List Bool) → length ls ≤ length ps → length ls ≤ length bs →
    dropped R d (e ∷ spots_of ls ps bs) ≡ false →
    line_forwards R d.line run d.loop (dropped R e (spots_of ls ps bs)) e.line ls ≡ forwards R run (d ∷ e ∷ spots_of ls ps bs)
unfolding line_forwards forwards store_forwards
forwards-is R run d e ls ps bs g h n = go (parse_of d.line)
  where
    go : (k : Line) → forwards_by R d.line run d.loop (dropped R e (spots_of ls ps bs)) e.line ls k ≡ forward_by R run d e (spots_of ls ps bs) k
    go line.Decl = refl
    go (line.Store s) = rw (n, lines-in ls ps bs g h, replace-some s.reg.0 e.line (text_of d.line (line.Store s)))
    go line.Other = refl

-- ---- the marks

-- what would go into the next line does not go
pub forwards-stays : (R : Reading) (run : List (List ℕ)) (d : Spot) (ss : List Spot) → dropped R d ss ≡ true → forwards R run (d ∷ ss) ≡ false
unfolding forwards
forwards-stays R run d [] h = refl
forwards-stays R run d (e ∷ ss) h = go (parse_of d.line)
  where
    go : (k : Line) → forward_by R run d e ss k ≡ false
    go line.Decl = refl
    go (line.Store s) = rw h
    go line.Other = refl

pub mark-goes : (R : Reading) (run : List (List ℕ)) (d : Spot) (ss : List Spot) → eqb (mark_of R run d ss) 1 ≡ dropped R d ss
unfolding mark_of
mark-goes R run d ss = go (dropped R d ss) (forwards R run (d ∷ ss))
  where
    go : (a b : Bool) → eqb (cond a 1 (cond b 2 0)) 1 ≡ a
    go true b = refl
    go false true = refl
    go false false = refl

mark-sends : (R : Reading) (run : List (List ℕ)) (d : Spot) (ss : List Spot) → eqb (mark_of R run d ss) 2 ≡ forwards R run (d ∷ ss)
unfolding mark_of
mark-sends R run d ss = go (dropped R d ss) (forwards R run (d ∷ ss)) refl
  where
    go : (a b : Bool) → dropped R d ss ≡ a → eqb (cond a 1 (cond (forwards R run (d ∷ ss)) 2 0)) 2 ≡ forwards R run (d ∷ ss)
    go true b h = sym (forwards-stays R run d ss h)
    go false b h = more (forwards R run (d ∷ ss))
      where
        more : (t : Bool) → eqb (cond t 2 0) 2 ≡ t
        more true = refl
        more false = refl

top-sends : (R : Reading) (run : List (List ℕ)) (ss : List Spot) → eqb (top (marks_go R ss run)) 2 ≡ forwards R run ss
unfolding marks_go top forwards
top-sends R run [] = refl
top-sends R run (d ∷ ss) = mark-sends R run d ss

-- the acts by the marks are the acts of the definition
pub acts-marks : (R : Reading) (ss : List Spot) (given : Bool) (above : List ℕ) (run : List (List ℕ)) → acts_by (lines_in ss) (marks_go R ss run) given above ≡ once_go R ss given above run
unfolding acts_by marks_go lines_in once_go once_act top
acts-marks R [] given above run = refl
acts-marks R (d ∷ ss) given above run =
    rw (mark-goes R run d ss, mark-sends R run d ss, top-sends R (next_run ss run) ss)
    (ap (λ (as' : List Act). once_act R given above run (next_run ss run) d ss ∷ as') (acts-marks R ss (forwards R run (d ∷ ss) && not (forwards R (next_run ss run) ss)) d.line (next_run ss run)))
