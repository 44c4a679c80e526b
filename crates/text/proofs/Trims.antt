-- The white space at the ends of a list, one at a time.
-- Assumes nothing.
use mathlib.Core.Path.{◌≡◌, refl, sym, ap, ◌∙◌}
use mathlib.Core.Bool.{Bool, true, false, cond, not, ◌&&◌}
use mathlib.Core.List.{List, [], ◌∷◌}
use Prim.Native.Nat.{ℕ, zero, suc, ◌+◌, ◌-◌, ◌≤◌, ◌<◌}
use native.Mathlib.Omega.{arith}
use native.Mathlib.Nat.{zero-add}
use borrow.Author.Tests.{ltb-true, ltb-false, le-leb, eqb-true}
use lib.Dec.{eqb, leb, ltb}
use lib.ListN.{length, get_or, drop, take, length-drop, drop_of_length-le}
use Rattle.std.specs.List.{position_or_len}
use Rattle.lines.proofs.Tests.{and_left, and_right}
use Rattle.text.specs.White.{is_white}
use lib.Seq.{drop-cons, drop-drop, get_or-drop, take_all}
use Rattle.text.specs.Trim.{white_head, white_tail, lead, end_white, or_on, from_of, to_of, to_end, trim_start, trim_of}
use Rattle.text.proofs.Whites.{head-le, head-ascii, tail-ascii, ascii-dark}

-- ---- the front

pub lead-skip : (k : ℕ) (l : List ℕ) → k ≤ length l → lead k l ≡ k + lead 0 (drop k l)
unfolding lead
lead-skip zero l h = omega arith
lead-skip (suc k) [] h = absurd (omega arith)
lead-skip (suc k) (x ∷ xs) h = let r = lead-skip k xs (omega arith) in omega arith

first-stop : (x : ℕ) (xs : List ℕ) → white_head (x ∷ xs) ≡ 0 → lead 0 (x ∷ xs) ≡ 0
unfolding lead
first-stop x xs e = rw e

first_on : (k x : ℕ) (xs : List ℕ) → k ≤ length xs → white_head (x ∷ xs) ≡ suc k → lead 0 (x ∷ xs) ≡ suc k + lead 0 (drop k xs)
unfolding lead
first_on k x xs h e = rw e (let r = lead-skip k xs h in omega arith)

module _ (s : List ℕ) (i : ℕ) (h : i < length s) where
  pub front-stop : white_head (drop i s) ≡ 0 → lead 0 (drop i s) ≡ 0
  front-stop e = rw (drop-cons s i 0 h) (first-stop (get_or s i 0) (drop (suc i) s) (rw (drop-cons s i 0 h) at e))

  pub front-on : (n : ℕ) → white_head (drop i s) ≡ n → (n ≡ 0 → ⊥) → lead 0 (drop i s) ≡ n + lead 0 (drop (i + n) s)
  front-on zero e z = absurd (z refl)
  front-on (suc k) e z =
      let q : suc i + k ≡ i + suc k = omega arith in
      let l = head-le s i h in
      let d = length-drop (suc i) s in
      rw (drop-cons s i 0 h)
      (first_on k (get_or s i 0) (drop (suc i) s) (omega arith) (rw (drop-cons s i 0 h) at e)
      ∙ ap (λ (r : List ℕ). suc k + lead 0 r) (drop-drop k (suc i) s ∙ ap (λ (n : ℕ). drop n s) q))

-- what `&s[i..]` is
pub rest_of : (s : List ℕ) (i : ℕ) → take (length s - i) (drop i s) ≡ drop i s
rest_of s i = let d = length-drop i s in take_all (length s - i) (drop i s) (omega arith)

-- ---- the back

pub end-skip : (s : List ℕ) (k e : ℕ) → end_white s k e ≡ end_white s 0 (e - k)
unfolding end_white
end-skip s zero e = let q : e ≡ e - 0 = omega arith in ap (end_white s 0) q
end-skip s (suc k) zero = let q : 0 ≡ 0 - suc k = omega arith in ap (end_white s 0) q
end-skip s (suc k) (suc e) = let q : e - k ≡ suc e - suc k = omega arith in end-skip s k e ∙ ap (end_white s 0) q

pub back-stop : (s : List ℕ) (e : ℕ) → 0 < e → white_tail s e ≡ 0 → end_white s 0 e ≡ e
unfolding end_white
back-stop s zero h w = omega arith
back-stop s (suc e) h w = rw w

pub back_on : (s : List ℕ) (e n : ℕ) → 0 < e → white_tail s e ≡ n → (n ≡ 0 → ⊥) → end_white s 0 e ≡ end_white s 0 (e - n)
unfolding end_white
back_on s zero n h w z = omega arith
back_on s (suc e) zero h w z = absurd (z refl)
back_on s (suc e) (suc k) h w z = let q : e - k ≡ suc e - suc k = omega arith in rw w (end-skip s k e ∙ ap (end_white s 0) q)

pub back_start : (s : List ℕ) (e : ℕ) → e ≤ 0 → end_white s 0 e ≡ e
unfolding end_white
back_start s zero h = refl
back_start s (suc e) h = absurd (omega arith)

-- ---- the bounds

lead-le : (k : ℕ) (l : List ℕ) → lead k l ≤ length l
unfolding lead
lead-le k [] = omega arith
lead-le (suc k) (x ∷ xs) = let r = lead-le k xs in omega arith
lead-le zero (x ∷ xs) = go (white_head (x ∷ xs)) (λ k. lead-le k xs)
  where
    go : (n : ℕ) → ((k : ℕ) → lead k xs ≤ length xs) → or_on n 0 (λ k. suc (lead k xs)) ≤ suc (length xs)
    go zero f = omega arith
    go (suc k) f = let r = f k in omega arith

end-le : (s : List ℕ) (k e : ℕ) → end_white s k e ≤ e
unfolding end_white
end-le s k zero = omega arith
end-le s (suc k) (suc e) = let r = end-le s k e in omega arith
end-le s zero (suc e) = go (white_tail s (suc e)) (λ k. end-le s k e)
  where
    go : (n : ℕ) → ((k : ℕ) → end_white s k e ≤ e) → or_on n (suc e) (λ k. end_white s k e) ≤ suc e
    go zero f = omega arith
    go (suc k) f = let r = f k in omega arith

pub from_of-le : (l : List ℕ) → from_of l ≤ length l
unfolding from_of
from_of-le l = lead-le 0 l

pub to_of-le : (l : List ℕ) → to_of l ≤ length l
unfolding to_of
to_of-le l = end-le l 0 (length l)

pub to_end-le : (l : List ℕ) → to_end l ≤ length l
to_end-le l =
    let a = from_of-le l in
    let b = to_of-le (drop (from_of l) l) in
    let d = length-drop (from_of l) l in
    omega arith

-- trimming is the part from the one place to the other
pub trim-part : (l : List ℕ) → trim_of l ≡ take (to_end l - from_of l) (drop (from_of l) l)
unfolding trim_of
trim-part l = let q : to_of (trim_start l) ≡ to_end l - from_of l = omega arith in ap (λ (n : ℕ). take n (drop (from_of l) l)) q

-- ---- spaces, and then a byte that tells: an ASCII byte above the space

abbrev one_if : Bool → ℕ
one_if t = cond t 1 0

dark : (a : ℕ) → 32 < a → a < 0x80 → one_if (is_white a) ≡ 0
dark a g h = ap one_if (ascii-dark a g h)

space : one_if (is_white 32) ≡ 1
unfolding is_white
space = refl

pub front-space : (s : List ℕ) (i : ℕ) → i < length s → get_or s i 0 ≡ 32 → from_of (drop i s) ≡ 1 + from_of (drop (i + 1) s)
unfolding from_of
front-space s i h e = front-on s i h 1 (head-ascii s i 32 h (sym e) (omega arith) ∙ space) (λ z. omega arith)

-- the spaces at the front
pub front-spaces : (s : List ℕ) → (position_or_len (λ b. not (eqb b 32)) s ≤ length s) × (from_of s ≡ position_or_len (λ b. not (eqb b 32)) s + from_of (drop (position_or_len (λ b. not (eqb b 32)) s) s))
front-spaces [] = (omega arith, omega arith)
front-spaces (x ∷ xs) = go (eqb x 32) refl (front-spaces xs)
  where
    n : ℕ
    n = position_or_len (λ b. not (eqb b 32)) xs

    go : (t : Bool) → eqb x 32 ≡ t → (n ≤ length xs) × (from_of xs ≡ n + from_of (drop n xs)) →
        (cond (not (not t)) (1 + n) 0 ≤ suc (length xs)) × (from_of (x ∷ xs) ≡ cond (not (not t)) (1 + n) 0 + from_of (drop (cond (not (not t)) (1 + n) 0) (x ∷ xs)))
    go true e h =
        let f = front-space (x ∷ xs) 0 (omega arith) (eqb-true x 32 e) in
        let z : 1 + n ≡ suc n = omega arith in
        rw z (omega arith, omega arith)
    go false e h = (omega arith, omega arith)

pub front-told : (s : List ℕ) (i a : ℕ) → i ≤ length s → from_of s ≡ i + from_of (drop i s) → a ≡ get_or s i 0 → 32 < a → a < 0x80 → i ≡ from_of s
unfolding from_of
front-told s i a l f e g h =
    let k : i < length s = inside (ltb i (length s)) refl in
    let z = front-stop s i k (head-ascii s i a k e h ∙ dark a g h) in
    omega arith
  where
    inside : (t : Bool) → ltb i (length s) ≡ t → i < length s
    inside true q = ltb-true i (length s) q
    inside false q =
        let n : i ≡ i + 0 = omega arith in
        let z : get_or s i 0 ≡ 0 = ap (λ (k : ℕ). get_or s k 0) n ∙ sym (get_or-drop i s 0 0) ∙ ap (λ (x : List ℕ). get_or x 0 0) (drop_of_length-le s (ltb-false i (length s) q)) in
        absurd (omega arith)

-- two spaces, and then a byte that tells
pub two-told : (s : List ℕ) → 3 ≤ length s →
    (eqb (get_or s 0 0) 32 && (eqb (get_or s 1 0) 32 && (ltb 32 (get_or s 2 0) && ltb (get_or s 2 0) 0x80))) ≡ true → from_of s ≡ 2
two-told s l h =
    let x = eqb (get_or s 0 0) 32 in
    let y = eqb (get_or s 1 0) 32 in
    let g = ltb 32 (get_or s 2 0) in
    let k = ltb (get_or s 2 0) 0x80 in
    let r = and_right x (y && (g && k)) h in
    let n = and_right y (g && k) r in
    let p = front-space s 0 (omega arith) (eqb-true (get_or s 0 0) 32 (and_left x (y && (g && k)) h)) in
    let q = front-space s 1 (omega arith) (eqb-true (get_or s 1 0) 32 (and_left y (g && k) r)) in
    sym (front-told s 2 (get_or s 2 0) (omega arith) (omega (arith, p, q)) refl (ltb-true 32 (get_or s 2 0) (and_left g k n)) (ltb-true (get_or s 2 0) 0x80 (and_right g k n)))

pub back-space : (s : List ℕ) (e : ℕ) → 0 < e → e ≤ length s → get_or s (e - 1) 0 ≡ 32 → end_white s 0 e ≡ end_white s 0 (e - 1)
back-space s e h l q = back_on s e 1 h (tail-ascii s e 32 h l (sym (ap (λ (t : Bool). cond t (get_or s (e - 1) 0) 0) (le-leb 1 e h) ∙ q)) (omega arith) ∙ space) (λ z. omega arith)

pub back-told : (s : List ℕ) (e c : ℕ) → e ≤ length s → to_of s ≡ end_white s 0 e → c ≡ cond (leb 1 e) (get_or s (e - 1) 0) 0 → 32 < c → c < 0x80 → e ≡ to_of s
back-told s zero c l f q g h = absurd (omega arith)
back-told s (suc n) c l f q g h = sym (f ∙ back-stop s (suc n) (omega arith) (tail-ascii s (suc n) c (omega arith) l q h ∙ dark c g h))

-- a text that begins and ends so has no white space at its ends
pub span-told : (s : List ℕ) (a c : ℕ) → a ≡ get_or s 0 0 → c ≡ cond (leb 1 (length s)) (get_or s (length s - 1) 0) 0 →
    (ltb 32 a && ltb a 0x80) ≡ true → (ltb 32 c && ltb c 0x80) ≡ true → (0 ≡ from_of s) × (length s ≡ to_end s)
unfolding to_of
span-told s a c ea ec ha hc =
    let f : 0 ≡ from_of s = front-told s 0 a (omega arith) (omega arith) ea (ltb-true 32 a (and_left (ltb 32 a) (ltb a 0x80) ha)) (ltb-true a 0x80 (and_right (ltb 32 a) (ltb a 0x80) ha)) in
    let t : length s ≡ to_of s = back-told s (length s) c (omega arith) refl ec (ltb-true 32 c (and_left (ltb 32 c) (ltb c 0x80) hc)) (ltb-true c 0x80 (and_right (ltb 32 c) (ltb c 0x80) hc)) in
    (f, t ∙ sym (zero-add (to_of s)) ∙ ap (λ (n : ℕ). n + to_of (drop n s)) f)
