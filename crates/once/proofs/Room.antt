-- The pass raises no weight: what a line takes in weighs no more than the line that goes. Assumes nothing.
use Prim.Native.Nat.{ℕ, ◌+◌, ◌-◌, ◌≤◌}
use mathlib.Core.Path.{◌≡◌, refl, sym, ap, ◌∙◌}
use mathlib.Core.Bool.{Bool, true, false, cond, not, ◌&&◌, ◌||◌}
use mathlib.Core.List.{List, [], ◌∷◌, ◌++◌, append_assoc}
use native.Mathlib.Omega.{arith}
use lib.ListN.{take, drop}
use Rattle.lines.specs.Lf.{part, unlines}
use Rattle.lines.specs.Acts.{Act, keep, become, into, gone, apply}
use Rattle.lines.proofs.Tests.{no, and_left}
use Rattle.text.specs.declared.Span.{Span}
use Rattle.names.specs.Names.{reg_text}
use Rattle.names.proofs.Decimal.{decimal-long}
use Rattle.parse.specs.Parse.{parse_of, text_of}
use Rattle.parse.specs.declared.Line.{Line}
use Rattle.parse.specs.declared.Line.TheVariants as line
use Rattle.place.specs.Region.{region}
use Rattle.place.specs.Paths.{block_paths, tops}
use Rattle.place.specs.Loops.{inside_loop}
use Rattle.place.proofs.Paths.{length-tops}
use Rattle.place.proofs.Nests.{length-loops}
use Rattle.words.specs.Hits.{reg_hit, glue_left, glue_right, glued, replaced_at, replace_by, replace_reg}
use Rattle.std.specs.declared.option.Option.{Option}
use Rattle.std.specs.declared.option.Option.TheVariants.{Some, None}
use Rattle.words.proofs.Places.{hit-stands, around}
use Rattle.weight.specs.Inner.Weight.{weight}
use Rattle.weight.proofs.Weigh.{weight-take, weight-rest}
use Rattle.weight.proofs.Moves.{bracketed, absorb-le, glued-is, not-spaced, credit, due, Fits, ended, kept, became, sent, dropped, fits-weight}
use Rattle.decls.proofs.Decl.{prune-weight}
use Rattle.reading.specs.Reading.{Reading}
use Rattle.once.specs.Once as once
use Rattle.once.specs.Once.{Spot, spots_of, spots, lines_in, forwards, first_of, taken_by, once_act, once_go, once_acts, next_run, optimize_once}
use Rattle.once.proofs.Searches.{lines-in}
use Rattle.once.proofs.Marks.{forwards-stays}

-- ---- a line with a value in the place of a register

due-credit : (k : ℕ) (ds : List ℕ) → k ≤ due (credit 0 k ds)
unfolding credit due
due-credit k [] = omega arith
due-credit k (d ∷ ds) = omega arith

module _ (H : ℕ) where
  replaced-weight : (v : ℕ) (l rep : List ℕ) (w : Span) → reg_hit v l ≡ Some w → weight H (replaced_at w.from w.to l rep) ≤ weight H l + weight H rep
  unfolding replaced_at
  replaced-weight v l rep w e =
      let g : Bool = glue_left (take w.from l) rep || glue_right rep (drop w.to l) in
      let a : replaced_at w.from w.to l rep ≡ take w.from l ++ (bracketed g rep ++ drop w.to l) =
      append_assoc (take w.from l) (glued (take w.from l) rep (drop w.to l)) (drop w.to l)
      ∙ ap (λ (x : List ℕ). take w.from l ++ (x ++ drop w.to l)) (glued-is (take w.from l) rep (drop w.to l)) in
      let m = absorb-le H g (take w.from l) (reg_text v) rep (drop w.to l) (not-spaced v) (omega (arith, decimal-long v)) in
      omega (arith, ap (weight H) a, m, sym (ap (weight H) (around l v w (hit-stands v l w e))))

  hit-weight : (v : ℕ) (l rep : List ℕ) (h : Option Span) → reg_hit v l ≡ h → weight H (first_of (replace_by h l rep) l) ≤ weight H l + weight H rep
  hit-weight v l rep None e = omega arith
  hit-weight v l rep (Some w) e = replaced-weight v l rep w e

  -- a line that takes the value of the line above grows by no more than that line weighs
  taken-weight : (above l : List ℕ) (k : Line) → weight H (taken_by above k l) ≤ weight H l + weight H above
  unfolding text_of replace_reg
  taken-weight above l line.Decl = omega arith
  taken-weight above l (line.Store s) =
      omega (arith, hit-weight s.reg.0 l (part s.from s.to above) (reg_hit s.reg.0 l) refl, weight-take H (s.to - s.from) (drop s.from above), weight-rest H s.from above)
  taken-weight above l line.Other = omega arith

  -- ---- the acts, line by line

  step : (a b c g : Bool) (l x : List ℕ) (ds : List ℕ) (more : List Act) (ls : List (List ℕ)) → (a ≡ true → b ≡ false) → (g ≡ true → weight H x ≤ weight H l + due ds) →
      ((ds' : List ℕ) → (b && not c ≡ true → weight H l ≤ due ds') → Fits H ds' more ls) →
      Fits H ds (cond a gone (cond b (cond c keep (into 1)) (cond g (become x) keep)) ∷ more) (l ∷ ls)
  step true b c g l x ds more ls f h k = dropped (k (drop 1 ds) (λ (e : b && not c ≡ true). no (sym (f refl) ∙ and_left b (not c) e)))
  step false true true g l x ds more ls f h k = kept (k (drop 1 ds) (λ (e : false ≡ true). no e))
  step false true false g l x ds more ls f h k =
      sent 0 (k (credit 0 (weight H l + 1 + due ds) (drop 1 ds)) (λ (e : true ≡ true). omega (arith, due-credit (weight H l + 1 + due ds) (drop 1 ds))))
  step false false c true l x ds more ls f h k = became (h refl) (k (drop 1 ds) (λ (e : false ≡ true). no e))
  step false false c false l x ds more ls f h k = kept (k (drop 1 ds) (λ (e : false ≡ true). no e))

  -- where the line above goes into this one, its weight is due
  go-fits : (R : Reading) (ss : List Spot) (given : Bool) (above : List ℕ) (run : List (List ℕ)) (ds : List ℕ) → (given ≡ true → weight H above ≤ due ds) →
      Fits H ds (once_go R ss given above run) (lines_in ss)
  unfolding once_go once_act lines_in
  go-fits R [] given above run ds h = ended
  go-fits R (d ∷ ss) given above run ds h =
      step (once.dropped R d ss) (forwards R run (d ∷ ss)) (forwards R (next_run ss run) ss) given d.line (taken_by above (parse_of above) d.line) ds _ (lines_in ss)
      (forwards-stays R run d ss)
      (λ (e : given ≡ true). omega (arith, taken-weight above d.line (parse_of above), h e))
      (go-fits R ss (forwards R run (d ∷ ss) && not (forwards R (next_run ss run) ss)) d.line (next_run ss run))

  -- the acts alone raise no weight
  pub acts-weight : (R : Reading) (ls : List (List ℕ)) → weight H (unlines (apply (once_acts R ls) ls)) ≤ weight H (unlines ls)
  unfolding once_acts spots
  acts-weight R ls =
      let g = length-tops ls in
      let h = length-loops ls in
      let e = lines-in ls (tops (block_paths ls)) (inside_loop ls) (omega arith) (omega arith) in
      fits-weight (rw e at (go-fits R (spots ls) false [] (region ls) [] (λ (q : false ≡ true). no q)))

  -- nor does the pass
  pub once-weight : (R : Reading) (ls : List (List ℕ)) → weight H (unlines (optimize_once R ls)) ≤ weight H (unlines ls)
  unfolding optimize_once
  once-weight R ls = omega (arith, prune-weight H (apply (once_acts R ls) ls), acts-weight R ls)
