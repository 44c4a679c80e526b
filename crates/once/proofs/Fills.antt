-- Laws of filling the table of marks. Assumes nothing.
use Prim.Native.Nat.{ℕ, suc, ◌+◌, ◌≤◌, ◌<◌, min}
use mathlib.Core.Path.{◌≡◌, refl, sym, ap, ◌∙◌}
use mathlib.Core.Bool.{Bool, true, false, cond}
use mathlib.Core.List.{List, [], ◌∷◌}
use native.Mathlib.Omega.{arith}
use native.Mathlib.Numerals.{add-one}
use lib.ListN.{length, drop, get_or, set, drop_of_length-le}
use lib.Seq.{drop-cons, drop-drop}
use Rattle.lines.specs.Lf.{part, up_to, lines_of}
use Rattle.lines.proofs.LfLaws.{lines-at, lines_end, rest_of}
use Rattle.lines.proofs.OutLaws.{Writing, writing_start, writing-as, writing-room}
use Rattle.place.specs.Blocks.{top}
use Rattle.place.specs.Inner.Fill.{Filled, flags_of}
use Rattle.place.specs.Region.{is_header, region, region_at}
use Rattle.place.specs.Paths.{block_paths, tops}
use Rattle.place.specs.Loops.{inside_loop}
use Rattle.place.proofs.Fills.{entry-on, entry-end}
use Rattle.place.proofs.Paths.{length-tops}
use Rattle.place.proofs.Nests.{length-loops}
use Rattle.reading.specs.Reading.{Reading}
use Rattle.decls.proofs.Writes.{at_same, at_new}
use Rattle.once.specs.Once.{Spot, spots_of, spots, dropped, forwards, next_run, once_acts}
use Rattle.once.specs.Inner.Tables.{line_drops, line_forwards, mark_of, marks_go, once_marks, acts_by, is_set, first_drops, first_takes, mark_by, first_mark, marks_in, marks_of, area_at}
use Rattle.once.specs.Inner.Noted.{RowAt}
use Rattle.once.proofs.Searches.{lines-in}
use Rattle.once.proofs.Marks.{drops-is, forwards-is, acts-marks}
use Rattle.once.proofs.Writes.{top-drop}

-- ---- the marks by tables are those of the definition

pub flag-set : (b : Bool) → is_set (cond b 1 0) ≡ b
flag-set true = refl
flag-set false = refl

-- a line that stays goes into the next by the tables where it does by the definition
takes-is : (R : Reading) (run : List (List ℕ)) (d : Spot) (ls : List (List ℕ)) (ps : List ℕ) (bs : List Bool) → length ls ≤ length ps → length ls ≤ length bs →
    dropped R d (spots_of ls ps bs) ≡ false →
    first_takes R d.line run d.loop (first_drops R ls ps (is_set (top (flags_of bs)))) ls ≡ forwards R run (d ∷ spots_of ls ps bs)
unfolding first_takes first_drops spots_of flags_of top forwards
takes-is R run d [] ps bs g h n = refl
takes-is R run d (l ∷ ls) [] bs g h n = absurd (omega arith)
takes-is R run d (l ∷ ls) (p ∷ ps) [] g h n = absurd (omega arith)
takes-is R run d (l ∷ ls) (p ∷ ps) (b ∷ bs) g h n =
    let e : Spot = record { line = l; path = p; loop = b } in
    ap (λ (t : Bool). line_forwards R d.line run d.loop (line_drops R l p t ls ps) l ls) (flag-set b)
    ∙ ap (λ (t : Bool). line_forwards R d.line run d.loop t l ls) (drops-is R e ls ps bs (omega arith) (omega arith))
    ∙ forwards-is R run d e ls ps bs (omega arith) (omega arith) n

mark-is : (R : Reading) (run : List (List ℕ)) (d : Spot) (ls : List (List ℕ)) (ps : List ℕ) (bs : List Bool) → length ls ≤ length ps → length ls ≤ length bs →
    mark_by (line_drops R d.line d.path d.loop ls ps) (first_takes R d.line run d.loop (first_drops R ls ps (is_set (top (flags_of bs)))) ls) ≡ mark_of R run d (spots_of ls ps bs)
unfolding mark_of
mark-is R run d ls ps bs g h =
    ap (λ (t : Bool). mark_by t (first_takes R d.line run d.loop (first_drops R ls ps (is_set (top (flags_of bs)))) ls)) (drops-is R d ls ps bs g h)
    ∙ go (dropped R d (spots_of ls ps bs)) refl
  where
    go : (t : Bool) → dropped R d (spots_of ls ps bs) ≡ t →
        mark_by t (first_takes R d.line run d.loop (first_drops R ls ps (is_set (top (flags_of bs)))) ls) ≡ cond t 1 (cond (forwards R run (d ∷ spots_of ls ps bs)) 2 0)
    go true n = refl
    go false n = ap (λ (t : Bool). cond t 2 0) (takes-is R run d ls ps bs g h n)

marks-in : (R : Reading) (ls : List (List ℕ)) (ps : List ℕ) (bs : List Bool) (run : List (List ℕ)) → length ls ≤ length ps → length ls ≤ length bs →
    marks_in R ls ps (flags_of bs) (first_drops R ls ps (is_set (top (flags_of bs)))) run ≡ marks_go R (spots_of ls ps bs) (next_run (spots_of ls ps bs) run)
unfolding marks_in marks_go spots_of first_drops flags_of top
marks-in R [] ps bs run g h = refl
marks-in R (l ∷ ls) [] bs run g h = absurd (omega arith)
marks-in R (l ∷ ls) (p ∷ ps) [] run g h = absurd (omega arith)
marks-in R (l ∷ ls) (p ∷ ps) (b ∷ bs) run g h =
    let d : Spot = record { line = l; path = p; loop = b } in
    rw (flag-set b, lines-in ls ps bs (omega arith) (omega arith), marks-in R ls ps bs (region_at l ls run) (omega arith) (omega arith), mark-is R (region_at l ls run) d ls ps bs (omega arith) (omega arith))
    refl

-- the first line's region
run-first : (ls : List (List ℕ)) (ps : List ℕ) (bs : List Bool) → length ls ≤ length ps → length ls ≤ length bs → next_run (spots_of ls ps bs) (region ls) ≡ region ls
unfolding spots_of region_at region
run-first [] ps bs g h = refl
run-first (l ∷ ls) [] bs g h = absurd (omega arith)
run-first (l ∷ ls) (p ∷ ps) [] g h = absurd (omega arith)
run-first (l ∷ ls) (p ∷ ps) (b ∷ bs) g h = rw (lines-in ls ps bs (omega arith) (omega arith)) (go (is_header l))
  where
    go : (t : Bool) → cond t (region (l ∷ ls)) (region (l ∷ ls)) ≡ region (l ∷ ls)
    go true = refl
    go false = refl

pub marks-of : (R : Reading) (ls : List (List ℕ)) → marks_of R ls (tops (block_paths ls)) (flags_of (inside_loop ls)) ≡ once_marks R ls
unfolding marks_of spots once_marks
marks-of R ls =
    let ps : List ℕ = tops (block_paths ls) in
    let bs : List Bool = inside_loop ls in
    let g = length-tops ls in
    let h = length-loops ls in
    marks-in R ls ps bs (region ls) (omega arith) (omega arith) ∙ ap (marks_go R (spots_of ls ps bs)) (run-first ls ps bs (omega arith) (omega arith))

-- so the acts by them are the acts of the pass
pub acts-of : (R : Reading) (ls : List (List ℕ)) → acts_by ls (once_marks R ls) false [] ≡ once_acts R ls
unfolding once_acts once_marks spots
acts-of R ls =
    let g = length-tops ls in
    let h = length-loops ls in
    ap (λ (xs : List (List ℕ)). acts_by xs (marks_go R (spots ls) (region ls)) false []) (sym (lines-in ls (tops (block_paths ls)) (inside_loop ls) (omega arith) (omega arith))) ∙ acts-marks R (spots ls) false [] (region ls)

in-length : (R : Reading) (ls : List (List ℕ)) (ps fs : List ℕ) (goes : Bool) (run : List (List ℕ)) → length (marks_in R ls ps fs goes run) ≡ length ls
unfolding marks_in
in-length R [] ps fs goes run = refl
in-length R (l ∷ ls) ps fs goes run = ap suc (in-length R ls (drop 1 ps) (drop 1 fs) _ _)

pub marks-length : (R : Reading) (ls : List (List ℕ)) (ps fs : List ℕ) → length (marks_of R ls ps fs) ≡ length ls
unfolding marks_of
marks-length R ls ps fs = in-length R ls ps fs (first_drops R ls ps (is_set (top fs))) (region ls)

-- ---- one line

drops-none : (R : Reading) (ls : List (List ℕ)) (b : Bool) → first_drops R ls [] b ≡ false
unfolding first_drops
drops-none R [] b = refl
drops-none R (l ∷ ls) b = refl

drops-cons : (R : Reading) (l : List ℕ) (ls : List (List ℕ)) (p : ℕ) (ps : List ℕ) (b : Bool) → first_drops R (l ∷ ls) (p ∷ ps) b ≡ line_drops R l p b ls ps
unfolding first_drops
drops-cons R l ls p ps b = refl

module _ (R : Reading) (t ps : List ℕ) (i k : ℕ) (b : Bool) where
  pub first-end : length t ≤ i → false ≡ first_drops R (lines_of (drop i t)) (drop k ps) b
  unfolding first_drops
  first-end h = rw (lines_end t i h)

  pub first_short : length ps ≤ k → false ≡ first_drops R (lines_of (drop i t)) (drop k ps) b
  first_short h = rw (drop_of_length-le ps h) (sym (drops-none R (lines_of (drop i t)) b))

  -- the lines below and their block paths are given as parts
  pub first-line : (e j n : ℕ) → i < length t → e ≡ i + up_to 10 (drop i t) → j ≡ min (e + 1) (length t) → k < length ps → n ≡ k + 1 →
      line_drops R (part i e t) (get_or ps k 0) b (lines_of (part j (length t) t)) (part n (length ps) ps) ≡ first_drops R (lines_of (drop i t)) (drop k ps) b
  first-line e j n h q z g y =
      rw (rest_of t j, rest_of ps n, z, y, add-one k, lines-at t i e h q, drop-cons ps k 0 g)
      (sym (drops-cons R (part i e t) (lines_of (drop (min (e + 1) (length t)) t)) (get_or ps k 0) (drop (suc k) ps) b))

module _ (R : Reading) (l : List ℕ) (run : List (List ℕ)) (b goes : Bool) where
  takes_cons : (e : List ℕ) (ls : List (List ℕ)) → first_takes R l run b goes (e ∷ ls) ≡ line_forwards R l run b goes e ls
  unfolding first_takes
  takes_cons e ls = refl

  module _ (t : List ℕ) (j : ℕ) where
    pub takes-end : length t ≤ j → first_takes R l run b goes (lines_of (drop j t)) ≡ false
    unfolding first_takes
    takes-end h = rw (lines_end t j h)

    pub takes-line : (e n : ℕ) → j < length t → e ≡ j + up_to 10 (drop j t) → n ≡ min (e + 1) (length t) →
        line_forwards R l run b goes (part j e t) (lines_of (part n (length t) t)) ≡ first_takes R l run b goes (lines_of (drop j t))
    takes-line e n h q z = rw (rest_of t n, z, lines-at t j e h q) (sym (takes_cons (part j e t) (lines_of (drop (min (e + 1) (length t)) t))))

pub mark-stays : {sent b : Bool} → sent ≡ b → cond b 2 0 ≡ mark_by false sent
mark-stays q = rw q

-- ---- the region of a line

-- the region at the front of a rest
abbrev pub lines_at : List ℕ → ℕ → List (List ℕ)
lines_at t w = region (lines_of (drop w t))

pub area-run : (t : List ℕ) (i e above : ℕ) → i < length t → e ≡ i + up_to 10 (drop i t) →
    lines_at t (area_at t i e above) ≡ region_at (part i e t) (lines_of (drop (min (e + 1) (length t)) t)) (lines_at t above)
unfolding area_at
area-run t i e above h q = go (is_header (part i e t)) refl
  where
    go : (b : Bool) → is_header (part i e t) ≡ b → lines_at t (cond b i above) ≡ region_at (part i e t) (lines_of (drop (min (e + 1) (length t)) t)) (lines_at t above)
    go true n = ap region (lines-at t i e h q) ∙ at_new (part i e t) _ _ n
    go false n = at_same (part i e t) _ _ n

module _ (t : List ℕ) (i e above : ℕ) (l : List ℕ) (q : l ≡ part i e t) where
  pub area-new : is_header l ≡ true → i ≡ area_at t i e above
  unfolding area_at
  area-new n = rw (sym q, n)

  pub area_same : is_header l ≡ false → above ≡ area_at t i e above
  unfolding area_at
  area_same n = rw (sym q, n)

-- ---- the loop

-- whether the first of the lines from i on goes, with the entries from k on
abbrev goes_at : Reading → List ℕ → List ℕ → List ℕ → ℕ → ℕ → Bool
goes_at R t ps fs i k = first_drops R (lines_of (drop i t)) (drop k ps) (is_set (top (drop k fs)))

-- the marks that are still to come: of these lines
abbrev pub to_mark : Reading → List ℕ → List ℕ → List ℕ → ℕ → ℕ → ℕ → List ℕ
to_mark R t ps fs i k w = marks_in R (lines_of (drop i t)) (drop k ps) (drop k fs) (goes_at R t ps fs i k) (lines_at t w)

pub record MarksInv (R : Reading) (t ps fs d₀ d : List ℕ) (i k w : ℕ) : Type 0 where
  pub i≤ : i ≤ length t
  pub k≤ : k ≤ i
  pub writing : Writing 0 (marks_of R (lines_of t) ps fs) (to_mark R t ps fs i k w) d₀ d k

pub fill_start : (R : Reading) (t ps fs d : List ℕ) → length (lines_of t) ≤ length d → MarksInv R t ps fs d d 0 0 0
unfolding marks_of
fill_start R t ps fs d h = record {
  i≤ = omega arith;
  k≤ = omega arith;
  writing = writing_start 0 (marks_of R (lines_of t) ps fs) d (omega (arith, marks-length R (lines_of t) ps fs));
}

marks-cons : (R : Reading) (l : List ℕ) (ls : List (List ℕ)) (ps fs : List ℕ) (run : List (List ℕ)) →
    marks_in R (l ∷ ls) ps fs (first_drops R (l ∷ ls) ps (is_set (top fs))) run
    ≡ first_mark R (l ∷ ls) ps fs (region_at l ls run) ∷ marks_in R ls (drop 1 ps) (drop 1 fs) (first_drops R ls (drop 1 ps) (is_set (top (drop 1 fs)))) (region_at l ls run)
unfolding marks_in first_mark
marks-cons R l ls ps fs run = refl

module _ {R : Reading} {t ps fs d₀ d : List ℕ} {i k w : ℕ} (v : MarksInv R t ps fs d₀ d i k w) (h : i < length t)
    (e w' : ℕ) (q : e ≡ i + up_to 10 (drop i t)) (a : w' ≡ area_at t i e w) where
  mark_on : to_mark R t ps fs i k w ≡ first_mark R (lines_of (drop i t)) (drop k ps) (drop k fs) (lines_at t w') ∷ to_mark R t ps fs (min (e + 1) (length t)) (k + 1) w'
  mark_on =
      let l : List ℕ = part i e t in
      let below : List (List ℕ) = lines_of (drop (min (e + 1) (length t)) t) in
      let r : lines_at t w' ≡ region_at l below (lines_at t w) = ap (lines_at t) a ∙ area-run t i e w h q in
      ap (λ (ls : List (List ℕ)). marks_in R ls (drop k ps) (drop k fs) (first_drops R ls (drop k ps) (is_set (top (drop k fs)))) (lines_at t w)) (lines-at t i e h q)
      ∙ marks-cons R l below (drop k ps) (drop k fs) (lines_at t w)
      ∙ ap (λ (s : List (List ℕ)). first_mark R (l ∷ below) (drop k ps) (drop k fs) s ∷ marks_in R below (drop 1 (drop k ps)) (drop 1 (drop k fs)) (first_drops R below (drop 1 (drop k ps)) (is_set (top (drop 1 (drop k fs))))) s) (sym r)
      ∙ ap (λ (s : List ℕ). first_mark R (l ∷ below) (drop k ps) (drop k fs) (lines_at t w') ∷ marks_in R below s (drop 1 (drop k fs)) (first_drops R below s (is_set (top (drop 1 (drop k fs))))) (lines_at t w')) (drop-drop 1 k ps)
      ∙ ap (λ (s : List ℕ). first_mark R (l ∷ below) (drop k ps) (drop k fs) (lines_at t w') ∷ marks_in R below (drop (k + 1) ps) s (first_drops R below (drop (k + 1) ps) (is_set (top s))) (lines_at t w')) (drop-drop 1 k fs)
      ∙ ap (λ (ls : List (List ℕ)). first_mark R ls (drop k ps) (drop k fs) (lines_at t w') ∷ to_mark R t ps fs (min (e + 1) (length t)) (k + 1) w') (sym (lines-at t i e h q))

  -- the entry is there
  pub fill-place : k < length d
  fill-place = let r = writing-room (writing-as mark_on v.writing) in omega arith

  pub fill_on : (j m : ℕ) → j ≡ min (e + 1) (length t) → m ≡ first_mark R (lines_of (drop i t)) (drop k ps) (drop k fs) (lines_at t w') → MarksInv R t ps fs d₀ (set d k m) j (k + 1) w'
  fill_on j m z o = record {
    i≤ = omega arith;
    k≤ = omega (arith, v.k≤);
    writing = entry-on m (writing-as (mark_on ∙ ap (λ (u : ℕ). u ∷ to_mark R t ps fs (min (e + 1) (length t)) (k + 1) w') (sym o) ∙ ap (λ (u : ℕ). m ∷ to_mark R t ps fs u (k + 1) w') (sym z)) v.writing);
  }

pub fill_end : {R : Reading} {t ps fs d₀ d : List ℕ} {i k w : ℕ} → MarksInv R t ps fs d₀ d i k w → length t ≤ i → Filled d₀ (marks_of R (lines_of t) ps fs) d k
unfolding marks_in
fill_end {R} {t} {ps} {fs} {d₀} {d} {i} {k} {w} v h = entry-end (none (lines_of (drop i t)) (lines_end t i h) (goes_at R t ps fs i k)) v.writing
  where
    none : (ls : List (List ℕ)) → ls ≡ [] → (goes : Bool) → marks_in R ls (drop k ps) (drop k fs) goes (lines_at t w) ≡ []
    none ls e goes = rw e

-- ---- the mark of one line

first-cons : (R : Reading) (l : List ℕ) (ls : List (List ℕ)) (ps fs : List ℕ) (run : List (List ℕ)) (f g : ℕ) (us : List ℕ) → top fs ≡ f → top (drop 1 fs) ≡ g → drop 1 ps ≡ us →
    first_mark R (l ∷ ls) ps fs run ≡ mark_by (first_drops R (l ∷ ls) ps (is_set f)) (first_takes R l run (is_set f) (first_drops R ls us (is_set g)) ls)
unfolding first_mark
first-cons R l ls ps fs run f g us y z w = rw (y, z, w)

-- f is the entry of the line, which is l and whose region begins r, and `next` says whether the line below goes, which begins at j
module _ (R : Reading) (t ps fs : List ℕ) (i e k w : ℕ) (a : RowAt t i e k) (f : ℕ) (y : f ≡ get_or fs k 0) where
  first-mark : (j : ℕ) → j ≡ min (e + 1) (length t) → first_mark R (lines_of (drop i t)) (drop k ps) (drop k fs) (lines_at t w)
      ≡ mark_by (first_drops R (lines_of (drop i t)) (drop k ps) (is_set f))
      (first_takes R (part i e t) (lines_at t w) (is_set f) (first_drops R (lines_of (drop j t)) (drop (k + 1) ps) (is_set (get_or fs (k + 1) 0))) (lines_of (drop j t)))
  first-mark j z =
      let below : List (List ℕ) = lines_of (drop (min (e + 1) (length t)) t) in
      let q = lines-at t i e a.here a.end in
      ap (λ (ls : List (List ℕ)). first_mark R ls (drop k ps) (drop k fs) (lines_at t w)) q
      ∙ first-cons R (part i e t) below (drop k ps) (drop k fs) (lines_at t w) f (get_or fs (k + 1) 0) (drop (k + 1) ps) (top-drop fs k ∙ sym y) (ap top (drop-drop 1 k fs) ∙ top-drop fs (k + 1)) (drop-drop 1 k ps)
      ∙ ap (λ (ls : List (List ℕ)). mark_by (first_drops R ls (drop k ps) (is_set f)) (first_takes R (part i e t) (lines_at t w) (is_set f) (first_drops R below (drop (k + 1) ps) (is_set (get_or fs (k + 1) 0))) below)) (sym q)
      ∙ ap (λ (n : ℕ). mark_by (first_drops R (lines_of (drop i t)) (drop k ps) (is_set f)) (first_takes R (part i e t) (lines_at t w) (is_set f) (first_drops R (lines_of (drop n t)) (drop (k + 1) ps) (is_set (get_or fs (k + 1) 0))) (lines_of (drop n t)))) (sym z)

  -- it goes
  pub first_goes : first_drops R (lines_of (drop i t)) (drop k ps) (is_set f) ≡ true → 1 ≡ first_mark R (lines_of (drop i t)) (drop k ps) (drop k fs) (lines_at t w)
  first_goes g = sym (first-mark (min (e + 1) (length t)) refl ∙ rw g)

  -- it stays
  pub first-stays : (j : ℕ) (l r : List ℕ) (next : Bool) (m : ℕ) → first_drops R (lines_of (drop i t)) (drop k ps) (is_set f) ≡ false → j ≡ min (e + 1) (length t) → l ≡ part i e t → r ≡ part w (length t) t →
      next ≡ first_drops R (lines_of (drop j t)) (drop (k + 1) ps) (is_set (get_or fs (k + 1) 0)) →
      m ≡ mark_by false (first_takes R l (region (lines_of r)) (is_set f) next (lines_of (drop j t))) → m ≡ first_mark R (lines_of (drop i t)) (drop k ps) (drop k fs) (lines_at t w)
  first-stays j l r next m g z b c n o = o ∙ rw (b, c, rest_of t w, n) (sym (first-mark j z ∙ rw g))
