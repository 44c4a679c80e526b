-- No LF comes into a line. Assumes nothing.
use Prim.Native.Nat.{ℕ, ◌-◌}
use mathlib.Core.Path.{◌≡◌, refl}
use mathlib.Core.Bool.{Bool, true, false, cond, not, ◌&&◌}
use mathlib.Core.List.{List, [], ◌∷◌}
use lib.ListN.{drop}
use Rattle.lines.specs.Lf.{all}
use Rattle.lines.specs.Inner.Lf.{lacks, no_lf}
use Rattle.lines.specs.Acts.{keep, become, into, gone, apply}
use Rattle.lines.proofs.Tests.{and_left, and_right, and_both}
use Rattle.lines.proofs.LfLaws.{lacks-take, lacks-drop}
use Rattle.lines.proofs.ActLaws.{act_no_lf, apply-no_lf}
use Rattle.parse.specs.Parse.{parse_of, text_of}
use Rattle.parse.specs.declared.Line.{Line}
use Rattle.parse.specs.declared.Line.TheVariants as line
use Rattle.place.specs.Region.{region}
use Rattle.place.specs.Paths.{block_paths, tops}
use Rattle.place.specs.Loops.{inside_loop}
use Rattle.words.specs.Hits.{reg_hit, replace_reg, replace_by}
use Rattle.std.specs.declared.option.Option.{Option}
use Rattle.text.specs.declared.Span.{Span}
use Rattle.std.specs.declared.option.Option.TheVariants.{Some, None}
use Rattle.words.proofs.Places.{replace-lacks}
use Rattle.reading.specs.Reading.{Reading}
use Rattle.once.specs.Once.{Spot, spots_of, spots, lines_in, dropped, forwards, first_of, taken_by, once_act, once_go, once_acts, next_run}

hit-lacks : (h : Option Span) (l x : List ℕ) → lacks 10 l ≡ true → lacks 10 x ≡ true → lacks 10 (first_of (replace_by h l x) l) ≡ true
hit-lacks None l x p q = p
hit-lacks (Some w) l x p q = replace-lacks w.from w.to l x p q

taken-lacks : (above l : List ℕ) (k : Line) → lacks 10 above ≡ true → lacks 10 l ≡ true → lacks 10 (taken_by above k l) ≡ true
unfolding text_of replace_reg
taken-lacks above l line.Decl p q = q
taken-lacks above l (line.Store s) p q = hit-lacks (reg_hit s.reg.0 l) l _ q (lacks-take (s.to - s.from) (drop s.from above) (lacks-drop s.from above p))
taken-lacks above l line.Other p q = q

act-lacks : (a b c g : Bool) (x : List ℕ) → lacks 10 x ≡ true → act_no_lf (cond a gone (cond b (cond c keep (into 1)) (cond g (become x) keep))) ≡ true
act-lacks true b c g x h = refl
act-lacks false true true g x h = refl
act-lacks false true false g x h = refl
act-lacks false false c true x h = h
act-lacks false false c false x h = refl

go-no_lf : (R : Reading) (ss : List Spot) (given : Bool) (above : List ℕ) (run : List (List ℕ)) → no_lf (lines_in ss) ≡ true → lacks 10 above ≡ true → all act_no_lf (once_go R ss given above run) ≡ true
unfolding once_go once_act lines_in no_lf
go-no_lf R [] given above run h k = refl
go-no_lf R (d ∷ ss) given above run h k =
    let p : lacks 10 d.line ≡ true = and_left (lacks 10 d.line) (no_lf (lines_in ss)) h in
    and_both
    (act-lacks (dropped R d ss) (forwards R run (d ∷ ss)) (forwards R (next_run ss run) ss) given _ (taken-lacks above d.line (parse_of above) k p))
    (go-no_lf R ss (forwards R run (d ∷ ss) && not (forwards R (next_run ss run) ss)) d.line (next_run ss run) (and_right (lacks 10 d.line) (no_lf (lines_in ss)) h) p)

spots-no_lf : (ls : List (List ℕ)) (ps : List ℕ) (bs : List Bool) → no_lf ls ≡ true → no_lf (lines_in (spots_of ls ps bs)) ≡ true
unfolding spots_of lines_in no_lf
spots-no_lf [] ps bs h = refl
spots-no_lf (l ∷ ls) [] bs h = refl
spots-no_lf (l ∷ ls) (p ∷ ps) [] h = refl
spots-no_lf (l ∷ ls) (p ∷ ps) (b ∷ bs) h = and_both (and_left (lacks 10 l) (no_lf ls) h) (spots-no_lf ls ps bs (and_right (lacks 10 l) (no_lf ls) h))

-- the acts of the pass bring no LF into a line
pub acts-no_lf : (R : Reading) (ls : List (List ℕ)) → no_lf ls ≡ true → no_lf (apply (once_acts R ls) ls) ≡ true
unfolding once_acts spots lacks
acts-no_lf R ls h =
    apply-no_lf (once_go R (spots ls) false [] (region ls)) ls
    (go-no_lf R (spots ls) false [] (region ls) (spots-no_lf ls (tops (block_paths ls)) (inside_loop ls) h) refl) h
