-- Laws of the two engines that find the lines that go: the loop of the plain one, and marks turned into tests. Assumes nothing.
use Prim.Native.Nat.{ℕ, suc, ◌+◌, ◌-◌, ◌≤◌, ◌<◌, min}
use mathlib.Core.Path.{◌≡◌, refl, sym, ap, ◌∙◌}
use mathlib.Core.Bool.{Bool, cond}
use mathlib.Core.List.{List, [], ◌∷◌, ◌++◌}
use native.Mathlib.Omega.{arith}
use native.Mathlib.Numerals.{add-one}
use lib.Dec.{eqb}
use lib.ListN.{length, take, drop, get_or, set}
use lib.Seq.{drop-cons, drop-drop, get_or_at, length-take-le}
use Rattle.lines.specs.Lf.{part, up_to, lines_of}
use Rattle.lines.specs.Inner.Out.{put_at}
use Rattle.lines.proofs.LfLaws.{lines-at, lines_end}
use Rattle.lines.proofs.OutLaws.{Writing, writing_start, writing-as, writing-room}
use Rattle.place.specs.Blocks.{top}
use Rattle.place.specs.Inner.Fill.{Filled, flags_of}
use Rattle.place.specs.Paths.{block_paths, tops}
use Rattle.place.specs.Loops.{inside_loop}
use Rattle.place.proofs.Fills.{entry-on, entry-end, flags-length, filled-as, filled-then, filled-take}
use Rattle.place.proofs.Paths.{length-tops}
use Rattle.place.proofs.Nests.{length-loops}
use Rattle.reading.specs.Reading.{Reading}
use Rattle.once.specs.Once.{Spot, spots_of, spots, dropped}
use Rattle.engines.specs.Engines.{plain_drops, plain_engine, sweep_engine}
use Rattle.once.specs.Inner.Tables.{is_set, line_drops, first_drops, once_marks}
use Rattle.engines.specs.Inner.Flags.{drops_in, goes_in}
use Rattle.once.proofs.Marks.{drops-is}
use Rattle.once.proofs.Fills.{flag-set, first-line}
use Rattle.once.proofs.Writes.{top-drop}
use Rattle.engines.proofs.Engines.{engines-same, engine-marks}

-- ---- the loop of the plain engine, over tables

drops-length : (R : Reading) (ls : List (List ℕ)) (ps fs : List ℕ) → length (drops_in R ls ps fs) ≡ length ls
unfolding drops_in
drops-length R [] ps fs = refl
drops-length R (l ∷ ls) ps fs = ap suc (drops-length R ls (drop 1 ps) (drop 1 fs))

-- the tests that are still to come
abbrev pub to_flag : Reading → List ℕ → List ℕ → List ℕ → ℕ → ℕ → List ℕ
to_flag R t ps fs i k = flags_of (drops_in R (lines_of (drop i t)) (drop k ps) (drop k fs))

pub record FlagsInv (R : Reading) (t ps fs d₀ d : List ℕ) (i k : ℕ) : Type 0 where
  pub k≤ : k ≤ i
  pub rows : k + length (lines_of (drop i t)) ≡ length (lines_of t)
  pub writing : Writing 0 (flags_of (drops_in R (lines_of t) ps fs)) (to_flag R t ps fs i k) d₀ d k

pub flags-start : (R : Reading) (t ps fs d : List ℕ) → length (lines_of t) ≤ length d → FlagsInv R t ps fs d d 0 0
flags-start R t ps fs d h = record {
  k≤ = omega arith;
  rows = omega arith;
  writing = writing_start 0 (flags_of (drops_in R (lines_of t) ps fs)) d (omega (arith, flags-length (drops_in R (lines_of t) ps fs), drops-length R (lines_of t) ps fs));
}

module _ {R : Reading} {t ps fs d₀ d : List ℕ} {i k : ℕ} (v : FlagsInv R t ps fs d₀ d i k) (h : i < length t) (e : ℕ) (q : e ≡ i + up_to 10 (drop i t)) where
  -- the line has an entry in each table of the lines
  pub row-there : k < length (lines_of t)
  row-there = omega (arith, v.rows, ap length (lines-at t i e h q))

  flag-on : to_flag R t ps fs i k ≡ cond (first_drops R (lines_of (drop i t)) (drop k ps) (is_set (get_or fs k 0))) 1 0 ∷ to_flag R t ps fs (min (e + 1) (length t)) (k + 1)
  unfolding drops_in flags_of
  flag-on =
      let below : List (List ℕ) = lines_of (drop (min (e + 1) (length t)) t) in
      rw (lines-at t i e h q, top-drop fs k)
      (ap (λ (r : List ℕ). cond (first_drops R (part i e t ∷ below) (drop k ps) (is_set (get_or fs k 0))) 1 0 ∷ r)
      (ap (λ (s : List ℕ). flags_of (drops_in R below s (drop 1 (drop k fs)))) (drop-drop 1 k ps) ∙ ap (λ (s : List ℕ). flags_of (drops_in R below (drop (k + 1) ps) s)) (drop-drop 1 k fs)))

  pub flag-place : k < length d
  flag-place = let r = writing-room (writing-as flag-on v.writing) in omega arith

  -- the lines below and their block paths are given as parts
  pub flags-on : (j : ℕ) (goes : Bool) (m : ℕ) → j ≡ min (e + 1) (length t) → k < length ps →
      goes ≡ line_drops R (part i e t) (get_or ps k 0) (is_set (get_or fs k 0)) (lines_of (part j (length t) t)) (part (k + 1) (length ps) ps) → m ≡ cond goes 1 0 → FlagsInv R t ps fs d₀ (set d k m) j (k + 1)
  flags-on j goes m z g w x =
      let y : goes ≡ first_drops R (lines_of (drop i t)) (drop k ps) (is_set (get_or fs k 0)) = w ∙ first-line R t ps i k (is_set (get_or fs k 0)) e j (k + 1) h q z g refl in
      record {
        k≤ = omega (arith, v.k≤);
        rows = omega (arith, v.rows, ap length (lines-at t i e h q), ap (λ (n : ℕ). length (lines_of (drop n t))) z);
        writing = entry-on m (writing-as (flag-on
            ∙ ap (λ (f : Bool). cond f 1 0 ∷ to_flag R t ps fs (min (e + 1) (length t)) (k + 1)) (sym y)
            ∙ ap (λ (f : ℕ). f ∷ to_flag R t ps fs (min (e + 1) (length t)) (k + 1)) (sym x)
            ∙ ap (λ (n : ℕ). m ∷ to_flag R t ps fs n (k + 1)) (sym z)) v.writing);
      }

pub flags-end : {R : Reading} {t ps fs d₀ d : List ℕ} {i k : ℕ} → FlagsInv R t ps fs d₀ d i k → length t ≤ i → Filled d₀ (flags_of (drops_in R (lines_of t) ps fs)) d k
unfolding drops_in flags_of
flags-end {R} {t} {ps} {fs} {d₀} {d} {i} {k} v h = entry-end (ap (λ (ls : List (List ℕ)). flags_of (drops_in R ls (drop k ps) (drop k fs))) (lines_end t i h)) v.writing

-- ---- the tests by tables are those of the definition

drops-in : (R : Reading) (ls : List (List ℕ)) (ps : List ℕ) (bs : List Bool) → length ls ≤ length ps → length ls ≤ length bs → drops_in R ls ps (flags_of bs) ≡ plain_drops R (spots_of ls ps bs)
unfolding drops_in first_drops plain_drops spots_of flags_of top
drops-in R [] ps bs g h = refl
drops-in R (l ∷ ls) [] bs g h = absurd (omega arith)
drops-in R (l ∷ ls) (p ∷ ps) [] g h = absurd (omega arith)
drops-in R (l ∷ ls) (p ∷ ps) (b ∷ bs) g h =
    let d : Spot = record { line = l; path = p; loop = b } in
    rw (flag-set b, drops-is R d ls ps bs (omega arith) (omega arith)) (ap (λ (r : List Bool). dropped R d (spots_of ls ps bs) ∷ r) (drops-in R ls ps bs (omega arith) (omega arith)))

drops-of : (R : Reading) (ls : List (List ℕ)) → drops_in R ls (tops (block_paths ls)) (flags_of (inside_loop ls)) ≡ plain_engine R ls
unfolding plain_engine spots
drops-of R ls = let g = length-tops ls in let h = length-loops ls in drops-in R ls (tops (block_paths ls)) (inside_loop ls) (omega arith) (omega arith)

-- from the tables as they were filled
pub plain-filled : (R : Reading) (ls : List (List ℕ)) {ps fs d d' : List ℕ} {r : ℕ} → ps ≡ tops (block_paths ls) → fs ≡ flags_of (inside_loop ls) →
    Filled d (flags_of (drops_in R ls ps fs)) d' r → Filled d (flags_of (plain_engine R ls)) d' r
plain-filled R ls {ps} {fs} p q f =
    filled-as (ap flags_of (ap (λ (x : List ℕ). drops_in R ls x fs) p ∙ ap (drops_in R ls (tops (block_paths ls))) q ∙ drops-of R ls)) f

-- ---- marks turned into tests

goes-length : (ms : List ℕ) → length (flags_of (goes_in ms)) ≡ length ms
unfolding flags_of goes_in
goes-length [] = refl
goes-length (m ∷ ms) = ap suc (goes-length ms)

-- the marks d₀ of n lines, of which the first k are turned
pub record GoesInv (d₀ d : List ℕ) (n k : ℕ) : Type 0 where
  pub k≤ : k ≤ n
  pub n≤ : n ≤ length d₀
  pub writing : Writing 0 (flags_of (goes_in (take n d₀))) (flags_of (goes_in (take (n - k) (drop k d₀)))) d₀ d k

pub goes-start : (d : List ℕ) (n : ℕ) → n ≤ length d → GoesInv d d n 0
goes-start d n h = record {
  k≤ = omega arith;
  n≤ = h;
  writing = let z : n ≡ n - 0 = omega arith in
      writing-as (ap (λ (m : ℕ). flags_of (goes_in (take m d))) z) (writing_start 0 (flags_of (goes_in (take n d))) d (omega (arith, goes-length (take n d), length-take-le n d h)));
}

module _ {d₀ d : List ℕ} {n k : ℕ} (v : GoesInv d₀ d n k) (h : k < n) where
  goes-on-one : flags_of (goes_in (take (n - k) (drop k d₀))) ≡ cond (eqb (get_or d₀ k 0) 1) 1 0 ∷ flags_of (goes_in (take (n - (k + 1)) (drop (k + 1) d₀)))
  unfolding flags_of goes_in
  goes-on-one =
      let q : n - k ≡ suc (n - (k + 1)) = omega arith in
      ap (λ (m : ℕ). flags_of (goes_in (take m (drop k d₀)))) q
      ∙ ap (λ (l : List ℕ). flags_of (goes_in (take (suc (n - (k + 1))) l))) (drop-cons d₀ k 0 (omega (arith, v.n≤)))
      ∙ ap (λ (m : ℕ). cond (eqb (get_or d₀ k 0) 1) 1 0 ∷ flags_of (goes_in (take (n - (k + 1)) (drop m d₀)))) (sym (add-one k))

  pub goes-place : k < length d
  goes-place = let r = writing-room (writing-as goes-on-one v.writing) in omega arith

  -- what stands at k is as it was
  goes_same : get_or d k 0 ≡ get_or d₀ k 0
  unfolding put_at
  goes_same =
      let xs : List ℕ = v.writing.done in
      let w = v.writing.wrote in
      ap (λ (l : List ℕ). get_or l k 0) w.holds
      ∙ ap (λ (m : ℕ). get_or (xs ++ drop m d₀) k 0) (sym w.place)
      ∙ ap (λ (l : List ℕ). get_or (xs ++ l) k 0) (drop-cons d₀ k 0 (omega (arith, v.n≤)))
      ∙ get_or_at xs (get_or d₀ k 0) (drop (suc k) d₀) 0 k (omega (arith, w.place))

  pub goes_on : (m : ℕ) → m ≡ cond (eqb (get_or d k 0) 1) 1 0 → GoesInv d₀ (set d k m) n (k + 1)
  goes_on m x = record {
    k≤ = omega arith;
    n≤ = v.n≤;
    writing = entry-on m (writing-as (goes-on-one
        ∙ ap (λ (a : ℕ). cond (eqb a 1) 1 0 ∷ flags_of (goes_in (take (n - (k + 1)) (drop (k + 1) d₀)))) (sym goes_same)
        ∙ ap (λ (a : ℕ). a ∷ flags_of (goes_in (take (n - (k + 1)) (drop (k + 1) d₀)))) (sym x)) v.writing);
  }

pub goes_end : {d₀ d : List ℕ} {n k : ℕ} → GoesInv d₀ d n k → n ≤ k → Filled d₀ (flags_of (goes_in (take n d₀))) d n
unfolding goes_in flags_of
goes_end {d₀} {d} {n} {k} v h =
    let z : n - k ≡ 0 = omega (arith, v.k≤) in
    let y : n ≡ k = omega (arith, v.k≤) in
    let f = entry-end (ap (λ (m : ℕ). flags_of (goes_in (take m (drop k d₀)))) z) v.writing in
    record { place = y ∙ f.place; holds = f.holds }

-- the marks of the pass, turned, are the sweep
pub sweep-filled : (R : Reading) (ls : List (List ℕ)) {d d₁ d₂ : List ℕ} {n : ℕ} → Filled d (once_marks R ls) d₁ n → Filled d₁ (flags_of (goes_in (take n d₁))) d₂ n →
    Filled d (flags_of (sweep_engine R ls)) d₂ n
sweep-filled R ls {d} {d₁} {d₂} {n} f g =
    let ms : List ℕ = once_marks R ls in
    let w : Filled d₁ (flags_of (goes_in ms)) d₂ n = filled-as (ap (λ (x : List ℕ). flags_of (goes_in x)) (filled-take f)) g in
    filled-as (ap flags_of (engine-marks R ls ∙ sym (engines-same R ls))) (filled-then f w (omega (arith, goes-length ms)))
