-- Where no line opens a loop's block, none stands in a loop. Assumes nothing.
use Prim.Native.Nat.{ℕ, zero, suc, ◌+◌, ◌-◌, ◌≤◌, ◌<◌, min}
use mathlib.Core.Path.{◌≡◌, refl, sym, ap, ◌∙◌}
use mathlib.Core.Bool.{Bool, true, false, cond, not, ◌&&◌, ◌||◌}
use mathlib.Core.List.{List, [], ◌∷◌, ◌++◌}
use native.Mathlib.Omega.{arith}
use borrow.Author.Tests.{not-true, ltb-true, ltb-false, le-leb}
use lib.ListN.{length, get_or, take, drop, replicate, length-drop, drop_of_length-le}
use lib.Seq.{get_or-drop, take_all}
use lib.Dec.{eqb, ltb}
use Rattle.lines.specs.Lf.{part, up_to, count_of, ends_in, lines_of}
use Rattle.lines.specs.Inner.Out.{Wrote}
use Rattle.lines.proofs.Tests.{no, and_left, and_right}
use Rattle.lines.proofs.LfLaws.{lines-at, lines_end}
use Rattle.text.specs.Trim.{from_of, end_white, to_of, trim_of}
use Rattle.text.proofs.Trims.{back-told}
use Rattle.place.specs.Inner.Paths.{flat_end}
use Rattle.place.specs.Loops.{opens_loop, any_loop, loops_after, loops_go, inside_loop}
use Rattle.place.specs.Inner.Loops.{starts_loop, some_loop, above_loop}
use Rattle.place.specs.Inner.Fill.{Filled, flags_of}
use Rattle.place.proofs.Fills.{filled-as, wrote-filled}

-- ---- a line

pub starts-not : (l : List ℕ) → ends_in 123 (trim_of l) ≡ false → starts_loop l ≡ false
unfolding starts_loop
starts-not l e = ap (λ (b : Bool). b && opens_loop (trim_of l)) e

-- a line that is all white space, or empty
blank-end : (l : List ℕ) → length l ≤ from_of l → ends_in 123 (trim_of l) ≡ false
unfolding trim_of to_of end_white
blank-end l h = ap (λ (s : List ℕ). ends_in 123 (take (to_of s) s)) (drop_of_length-le l h)

pub empty-not : (l : List ℕ) → length l ≡ 0 → starts_loop l ≡ false
empty-not l h = starts-not l (blank-end l (omega arith))

-- an ASCII byte above the space at its end stays when it is trimmed
pub low_end : (l : List ℕ) (c : ℕ) → c ≡ get_or l (length l - 1) 0 → flat_end c ≡ true → ends_in 123 (trim_of l) ≡ false
unfolding trim_of to_of
low_end l c q a = go (ltb (from_of l) (length l)) refl
  where
    u : (ltb c 0x80 && not (eqb c 123)) ≡ true
    u = and_right (ltb 32 c) (ltb c 0x80 && not (eqb c 123)) a

    g : 32 < c
    g = ltb-true 32 c (and_left (ltb 32 c) (ltb c 0x80 && not (eqb c 123)) a)

    h : c < 0x80
    h = ltb-true c 0x80 (and_left (ltb c 0x80) (not (eqb c 123)) u)

    go : (b : Bool) → ltb (from_of l) (length l) ≡ b → ends_in 123 (trim_of l) ≡ false
    go false e = blank-end l (ltb-false (from_of l) (length l) e)
    go true e =
        let s : List ℕ = drop (from_of l) l in
        let k : from_of l < length l = ltb-true (from_of l) (length l) e in
        let m : length s ≡ length l - from_of l = length-drop (from_of l) l in
        let z : from_of l + (length s - 1) ≡ length l - 1 = omega arith in
        let v : get_or s (length s - 1) 0 ≡ c = get_or-drop (from_of l) l (length s - 1) 0 ∙ ap (λ (i : ℕ). get_or l i 0) z ∙ sym q in
        let w : length s ≡ to_of s = back-told s (length s) c (omega arith) refl (sym v ∙ sym (ap (λ (b : Bool). cond b (get_or s (length s - 1) 0) 0) (le-leb 1 (length s) (omega arith)))) g h in
        let y : trim_of l ≡ s = ap (λ (i : ℕ). take i s) (sym w) ∙ take_all (length s) s (omega arith) in
        ap (ends_in 123) y ∙ ap (λ (x : ℕ). eqb x 123) v ∙ not-true (eqb c 123) (and_right (ltb c 0x80) (not (eqb c 123)) u)

pub low-not : (l : List ℕ) (c : ℕ) → c ≡ get_or l (length l - 1) 0 → flat_end c ≡ true → starts_loop l ≡ false
low-not l c q a = starts-not l (low_end l c q a)

-- ---- lines

module _ (l : List ℕ) (ls : List (List ℕ)) where
  pub some-here : starts_loop l ≡ true → (true ≡ some_loop (l ∷ ls)) × (0 ≡ above_loop (l ∷ ls))
  unfolding some_loop above_loop
  some-here e = (sym (ap (λ (b : Bool). b || some_loop ls) e), sym (ap (λ (b : Bool). cond b 0 (suc (above_loop ls))) e))

  pub some-on : starts_loop l ≡ false → (some_loop ls ≡ some_loop (l ∷ ls)) × (suc (above_loop ls) ≡ above_loop (l ∷ ls))
  unfolding some_loop above_loop
  some-on e = (sym (ap (λ (b : Bool). b || some_loop ls) e), sym (ap (λ (b : Bool). cond b 0 (suc (above_loop ls))) e))

-- ---- no loop is open where none was and no line opens one

any-drop : (k : ℕ) (s : List Bool) → any_loop s ≡ false → any_loop (drop k s) ≡ false
unfolding any_loop
any-drop zero s h = h
any-drop (suc k) [] h = refl
any-drop (suc k) (true ∷ s) h = no (sym h)
any-drop (suc k) (false ∷ s) h = any-drop k s h

any_open : (b o : Bool) (s : List Bool) → b && o ≡ false → any_loop s ≡ false → any_loop (cond b (o ∷ s) s) ≡ false
unfolding any_loop
any_open true o s e h = ap (λ (x : Bool). x || any_loop s) e ∙ h
any_open false o s e h = h

-- the first of lines of which none opens a loop's block
opened : (l : List ℕ) (ls : List (List ℕ)) → some_loop (l ∷ ls) ≡ false → starts_loop l ≡ false
opened l ls h = go (starts_loop l) refl
  where
    go : (b : Bool) → starts_loop l ≡ b → starts_loop l ≡ false
    go true e = no (sym h ∙ sym (some-here l ls e).0)
    go false e = e

quiet-go : (ls : List (List ℕ)) (s : List Bool) → some_loop ls ≡ false → any_loop s ≡ false → flags_of (loops_go ls s) ≡ replicate (length ls) 0
unfolding flags_of loops_go loops_after starts_loop
quiet-go [] s h a = refl
quiet-go (l ∷ ls) s h a =
    let o = opened l ls h in
    ap (λ (b : Bool). cond b 1 0 ∷ flags_of (loops_go ls (loops_after (trim_of l) s))) a
    ∙ ap (λ (x : List ℕ). 0 ∷ x) (quiet-go ls (loops_after (trim_of l) s) ((some-on l ls o).0 ∙ h) (any-drop (count_of 125 (trim_of l)) (cond (ends_in 123 (trim_of l)) (opens_loop (trim_of l) ∷ s) s) (any_open (ends_in 123 (trim_of l)) (opens_loop (trim_of l)) s o a)))

pub quiet : (ls : List (List ℕ)) → some_loop ls ≡ false → flags_of (inside_loop ls) ≡ replicate (length ls) 0
unfolding inside_loop any_loop
quiet ls h = quiet-go ls [] h refl

pub above-all : (ls : List (List ℕ)) → some_loop ls ≡ false → above_loop ls ≡ length ls
unfolding above_loop
above-all [] h = refl
above-all (l ∷ ls) h = let o = some-on l ls (opened l ls h) in sym o.1 ∙ ap suc (above-all ls (o.0 ∙ h))

-- ---- the search

pub record AheadInv (t : List ℕ) (i k : ℕ) : Type 0 where
  pub i≤ : i ≤ length t
  pub k≤ : k ≤ i
  pub some : some_loop (lines_of (drop i t)) ≡ some_loop (lines_of t)
  pub above : k + above_loop (lines_of (drop i t)) ≡ above_loop (lines_of t)

pub ahead-start : (t : List ℕ) → AheadInv t 0 0
ahead-start t = record { i≤ = omega arith; k≤ = omega arith; some = refl; above = omega arith }

module _ {t : List ℕ} {i k : ℕ} (h : AheadInv t i k) where
  module _ (q : i < length t) (e : ℕ) (z : e ≡ i + up_to 10 (drop i t)) where
    pub ahead-here : starts_loop (part i e t) ≡ true → (true ≡ some_loop (lines_of t)) × (k ≡ above_loop (lines_of t))
    ahead-here s =
        let p = some-here (part i e t) (lines_of (drop (min (e + 1) (length t)) t)) s in
        let y : 0 ≡ above_loop (lines_of (drop i t)) = p.1 ∙ sym (ap above_loop (lines-at t i e q z)) in
        (p.0 ∙ sym (ap some_loop (lines-at t i e q z)) ∙ h.some, omega (arith, h.above))

    pub ahead-on : starts_loop (part i e t) ≡ false → (j : ℕ) → j ≡ min (e + 1) (length t) → AheadInv t j (k + 1)
    ahead-on s j w =
        let p = some-on (part i e t) (lines_of (drop (min (e + 1) (length t)) t)) s in
        let x : some_loop (lines_of (drop j t)) ≡ some_loop (lines_of (drop i t)) = ap (λ (n : ℕ). some_loop (lines_of (drop n t))) w ∙ p.0 ∙ sym (ap some_loop (lines-at t i e q z)) in
        let y : suc (above_loop (lines_of (drop j t))) ≡ above_loop (lines_of (drop i t)) = ap (λ (n : ℕ). suc (above_loop (lines_of (drop n t)))) w ∙ p.1 ∙ sym (ap above_loop (lines-at t i e q z)) in
        let g = h.k≤ in
        record { i≤ = omega arith; k≤ = omega arith; some = x ∙ h.some; above = omega (arith, h.above) }

  pub ahead-end : length t ≤ i → (false ≡ some_loop (lines_of t)) × (k ≡ above_loop (lines_of t))
  unfolding some_loop above_loop
  ahead-end q =
      let y : above_loop (lines_of (drop i t)) ≡ 0 = ap above_loop (lines_end t i q) in
      (sym (ap some_loop (lines_end t i q)) ∙ h.some, omega (arith, h.above))

-- ---- zeros for all lines

pub quiet-filled : (t : List ℕ) {f f' : List ℕ} {n : ℕ} → false ≡ some_loop (lines_of t) → n ≡ above_loop (lines_of t) → Wrote f 0 (replicate n 0) f' n → Filled f (flags_of (inside_loop (lines_of t))) f' n
quiet-filled t {f} {f'} {n} s a w =
    let m : n ≡ length (lines_of t) = a ∙ above-all (lines_of t) (sym s) in
    filled-as (ap (λ (k : ℕ). replicate k 0) m ∙ sym (quiet (lines_of t) (sym s))) (wrote-filled w)
