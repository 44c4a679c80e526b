-- The open blocks as a stack of numbers, for any reading of braces: the number on top decides the whole stack. Assumes nothing.
use Prim.Native.Nat.{ℕ, zero, suc, ◌≤◌, ◌<◌}
use mathlib.Core.Path.{◌≡◌, refl, sym, ap, subst}
use mathlib.Core.List.{List, [], ◌∷◌, ◌++◌}
use native.Mathlib.Omega.{arith}
use lib.ListN.{length, get_or, drop}
use Rattle.place.specs.Blocks.{Brace, opens, closes, neither, push, count, top}
use Rattle.place.specs.Paths.{tops}

-- ---- a walk over braces: the open blocks, and the next number

unfoldable pub walk : List Brace → ℕ → List ℕ → List ℕ
walk [] n s = s
walk (b ∷ bs) n s = walk bs (count b n) (push b n s)

unfoldable pub tally : List Brace → ℕ → ℕ
tally [] n = n
tally (b ∷ bs) n = tally bs (count b n)

pub walk-append : (xs ys : List Brace) (n : ℕ) (s : List ℕ) → walk (xs ++ ys) n s ≡ walk ys (tally xs n) (walk xs n s)
unfolding walk tally
walk-append [] ys n s = refl
walk-append (x ∷ xs) ys n s = walk-append xs ys (count x n) (push x n s)

pub tally-append : (xs ys : List Brace) (n : ℕ) → tally (xs ++ ys) n ≡ tally ys (tally xs n)
unfolding tally
tally-append [] ys n = refl
tally-append (x ∷ xs) ys n = tally-append xs ys (count x n)

-- ---- every number on the stack has been given out, is not 0, and is greater than the one under it

pub data Given : ℕ → List ℕ → Type 0 where
  base : {n : ℕ} → 1 ≤ n → Given n []
  on : {n x : ℕ} {s : List ℕ} → top s < x → x < n → Given n s → Given n (x ∷ s)

pub given-pos : {n : ℕ} {s : List ℕ} → Given n s → 1 ≤ n
given-pos (base h) = h
given-pos (on p q r) = given-pos r

pub given-top : {n : ℕ} {s : List ℕ} → Given n s → top s < n
unfolding top
given-top (base h) = omega arith
given-top (on p q r) = q

given-more : {n : ℕ} {s : List ℕ} → Given n s → Given (suc n) s
given-more {n} (base h) = base {n = suc n} (omega arith)
given-more {n} (on {x = x} {s = s} p q r) = on {n = suc n} {x = x} {s = s} p (omega arith) (given-more r)

pub given_by : (b : Brace) {n : ℕ} {s : List ℕ} → Given n s → Given (count b n) (push b n s)
unfolding count push
given_by opens {n} {s} g = on {n = suc n} {x = n} {s = s} (given-top g) (omega arith) (given-more g)
given_by closes (base h) = base h
given_by closes (on p q r) = r
given_by neither g = g

pub given-walk : (bs : List Brace) {n : ℕ} {s : List ℕ} → Given n s → Given (tally bs n) (walk bs n s)
unfolding tally walk
given-walk [] g = g
given-walk (b ∷ bs) g = given-walk bs (given_by b g)

pub given-first : Given 1 []
given-first = base {n = 1} (omega arith)

-- ---- what can stand on the stack later: part of what stands there now, under numbers from n on

data Since (n : ℕ) (s : List ℕ) : List ℕ → Type 0 where
  under : (k : ℕ) → Since n s (drop k s)
  fresh : {x : ℕ} {w : List ℕ} → n ≤ x → Since n s w → Since n s (x ∷ w)

pub drop-one : (k : ℕ) (s : List ℕ) → drop (suc k) s ≡ drop 1 (drop k s)
drop-one zero s = refl
drop-one (suc k) [] = refl
drop-one (suc k) (x ∷ s) = drop-one k s

module _ (n : ℕ) (s : List ℕ) where
  since-by : (b : Brace) (m : ℕ) {w : List ℕ} → n ≤ m → Since n s w → Since n s (push b m w)
  unfolding push
  since-by opens m h g = fresh h g
  since-by closes m h (under k) = let g : Since n s (drop (suc k) s) = under (suc k) in subst (λ (r : List ℕ). Since n s r) (drop-one k s) g
  since-by closes m h (fresh p g) = g
  since-by neither m h g = g

  count-up : (b : Brace) (m : ℕ) → n ≤ m → n ≤ count b m
  unfolding count
  count-up opens m h = omega arith
  count-up closes m h = h
  count-up neither m h = h

  since-walk : (bs : List Brace) (m : ℕ) {w : List ℕ} → n ≤ m → Since n s w → Since n s (walk bs m w)
  unfolding walk
  since-walk [] m h g = g
  since-walk (b ∷ bs) m h g = since-walk bs (count b m) (count-up b m h) (since-by b m h g)

  tally-up : (bs : List Brace) (m : ℕ) → n ≤ m → n ≤ tally bs m
  unfolding tally
  tally-up [] m h = h
  tally-up (b ∷ bs) m h = tally-up bs (count b m) (count-up b m h)

drop-top : {n : ℕ} {s : List ℕ} (k : ℕ) → Given n s → top (drop k s) ≤ top s
unfolding top
drop-top zero g = omega arith
drop-top (suc k) (base h) = omega arith
drop-top (suc k) (on p q r) = let a = drop-top k r in omega arith

-- the same number on top, the same stack
since-same : {n : ℕ} {s w : List ℕ} → Given n s → Since n s w → top w ≡ top s → w ≡ s
unfolding top
since-same g (under zero) e = refl
since-same (base h) (under (suc k)) e = refl
since-same (on p q r) (under (suc k)) e = let a = drop-top k r in absurd (omega arith)
since-same g (fresh h f) e = let a = given-top g in absurd (omega arith)

-- ---- the stack at which each line is noted: pre are the braces of a line that count before, post those after

module _ {R : Type 0} (pre post : R → List Brace) where
  unfoldable pub noted : List R → ℕ → List ℕ → List (List ℕ)
  noted [] n s = []
  noted (l ∷ ls) n s = walk (pre l) n s ∷ noted ls (tally (pre l ++ post l) n) (walk (pre l ++ post l) n s)

  pub noted-length : (ls : List R) (n : ℕ) (s : List ℕ) → length (noted ls n s) ≡ length ls
  unfolding noted
  noted-length [] n s = refl
  noted-length (l ∷ ls) n s = ap suc (noted-length ls (tally (pre l ++ post l) n) (walk (pre l ++ post l) n s))

  since-noted : (n : ℕ) (s : List ℕ) (ls : List R) (m : ℕ) {w : List ℕ} (j : ℕ) → n ≤ m → j < length ls → Since n s w → Since n s (get_or (noted ls m w) j [])
  unfolding noted
  since-noted n s [] m j h q g = absurd (omega arith)
  since-noted n s (l ∷ ls) m zero h q g = since-walk n s (pre l) m h g
  since-noted n s (l ∷ ls) m (suc j) h q g =
      since-noted n s ls (tally (pre l ++ post l) m) j (tally-up n s (pre l ++ post l) m h) (omega arith) (since-walk n s (pre l ++ post l) m h g)

  -- two lines with the same number on top have the same stack
  pub noted-same : (ls : List R) {n : ℕ} {s : List ℕ} (i j : ℕ) → Given n s → i ≤ j → j < length ls →
      top (get_or (noted ls n s) j []) ≡ top (get_or (noted ls n s) i []) → get_or (noted ls n s) j [] ≡ get_or (noted ls n s) i []
  unfolding noted
  noted-same [] i j g p q e = absurd (omega arith)
  noted-same (l ∷ ls) zero zero g p q e = refl
  noted-same (l ∷ ls) (suc i) zero g p q e = absurd (omega arith)
  noted-same (l ∷ ls) {n} {s} zero (suc j) g p q e =
      let m : ℕ = tally (pre l) n in
      let w : List ℕ = walk (pre l) n s in
      let later : Since m w (walk (pre l ++ post l) n s) =
      subst (λ (r : List ℕ). Since m w r) (sym (walk-append (pre l) (post l) n s)) (since-walk m w (post l) m (omega arith) (under 0)) in
      let next : m ≤ tally (pre l ++ post l) n = subst (λ (k : ℕ). m ≤ k) (sym (tally-append (pre l) (post l) n)) (tally-up m w (post l) m (omega arith)) in
      since-same (given-walk (pre l) g) (since-noted m w ls (tally (pre l ++ post l) n) j next (omega arith) later) e
  noted-same (l ∷ ls) (suc i) (suc j) g p q e = noted-same ls i j (given-walk (pre l ++ post l) g) (omega arith) (omega arith) e

-- the number on top of each
pub tops-at : (ps : List (List ℕ)) (i : ℕ) → get_or (tops ps) i 0 ≡ top (get_or ps i [])
unfolding tops top
tops-at [] zero = refl
tops-at [] (suc i) = refl
tops-at (p ∷ ps) zero = refl
tops-at (p ∷ ps) (suc i) = tops-at ps i

pub tops-length : (ps : List (List ℕ)) → length (tops ps) ≡ length ps
unfolding tops
tops-length [] = refl
tops-length (p ∷ ps) = ap suc (tops-length ps)
