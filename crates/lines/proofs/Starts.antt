-- Laws of where a line begins, looked for from its end. Assumes nothing.
use Rattle.std.proofs.Common.{◌≡◌, ℕ, zero, suc, ◌+◌, ◌-◌, ◌*◌, ◌/◌, ◌^◌, ◌<◌, ◌≤◌, min, Bool, true, false, cond, eqb, leb, List, [], ◌∷◌, ◌++◌, length, get_or, take, drop, sym, refl, ap, ◌∙◌, arith, length-drop, length-take-le, get_or-drop, take-suc, pow_pos, pow-add, eq-eqb, ne_eqb, leb-false, leb-true}
use lib.Count.{count_leading_zeros, leading_unique}
use lib.ListN.{get_or-eq_default}
use Rattle.lines.specs.Inner.Lf.{line_start, marks}

-- ---- byte by byte

start-by : (s : List ℕ) (i j : ℕ) → j ≡ suc i → line_start s j ≡ cond (eqb (get_or s i 0) 10) j (line_start s i)
unfolding line_start
start-by s i j e = rw e

module _ (s : List ℕ) (j : ℕ) (h : 0 < j) where
  pub start-here : get_or s (j - 1) 0 ≡ 10 → line_start s j ≡ j
  start-here e = start-by s (j - 1) j (omega arith) ∙ rw (eq-eqb (get_or s (j - 1) 0) 10 e)

  pub start-on : (get_or s (j - 1) 0 ≡ 10 → ⊥) → line_start s j ≡ line_start s (j - 1)
  start-on n = start-by s (j - 1) j (omega arith) ∙ rw (ne_eqb (get_or s (j - 1) 0) 10 n)

pub start-front : (s : List ℕ) (j : ℕ) → j ≤ 0 → line_start s j ≡ j
unfolding line_start
start-front s zero h = refl
start-front s (suc j) h = absurd (omega arith)

start-past : (s : List ℕ) (n k : ℕ) → length s ≤ n → line_start s (n + k) ≡ line_start s n
start-past s n zero h = let z : n + 0 ≡ n = omega arith in ap (line_start s) z
start-past s n (suc k) h =
    let m : length s ≤ n + k = omega arith in
    start-by s (n + k) (n + suc k) (omega arith) ∙ rw (get_or-eq_default s 0 m) (start-past s n k h)

-- there is no LF past the end
pub start-least : (s : List ℕ) (e : ℕ) → line_start s (min e (length s)) ≡ line_start s e
start-least s e = go (leb e (length s)) refl
  where
    go : (t : Bool) → leb e (length s) ≡ t → line_start s (min e (length s)) ≡ line_start s e
    go true p = let h = leb-true e (length s) p in let q : min e (length s) ≡ e = omega arith in ap (line_start s) q
    go false p =
        let h = leb-false e (length s) p in
        let q : min e (length s) ≡ length s = omega arith in
        let r : length s + (e - length s) ≡ e = omega arith in
        ap (line_start s) q ∙ sym (start-past s (length s) (e - length s) (omega arith)) ∙ ap (line_start s) r

-- ---- by marks, the last one first

byte_more : (n : ℕ) → 2 ^ (suc n * 8) ≡ 2 ^ (n * 8) * 256
byte_more n = let q : suc n * 8 ≡ n * 8 + 8 = omega arith in ap (λ (k : ℕ). 2 ^ k) q ∙ pow-add 2 (n * 8) 8

-- the marks of n bytes are a number of n bytes
marks-lt : (b : ℕ) (l : List ℕ) → marks b l < 2 ^ (length l * 8)
unfolding marks
marks-lt b [] = omega arith
marks-lt b (x ∷ xs) = rw (byte_more (length xs)) (go (eqb x b) (marks-lt b xs))
  where
    go : (t : Bool) → marks b xs < 2 ^ (length xs * 8) → marks b xs * 256 + cond t 128 0 < 2 ^ (length xs * 8) * 256
    go true h = omega arith
    go false h = omega arith

-- one more byte, the highest
marks-end : (b : ℕ) (xs : List ℕ) (y : ℕ) (t : Bool) → eqb y b ≡ t → marks b (xs ++ (y ∷ [])) ≡ cond t (2 ^ (length xs * 8) * 128) 0 + marks b xs
unfolding marks
marks-end b [] y t e = rw e (go t)
  where
    go : (t : Bool) → 0 * 256 + cond t 128 0 ≡ cond t (1 * 128) 0 + 0
    go true = refl
    go false = refl
marks-end b (x ∷ xs) y t e = rw (byte_more (length xs)) (go t (eqb x b) (marks-end b xs y t e))
  where
    go : (t u : Bool) → marks b (xs ++ (y ∷ [])) ≡ cond t (2 ^ (length xs * 8) * 128) 0 + marks b xs →
        marks b (xs ++ (y ∷ [])) * 256 + cond u 128 0 ≡ cond t (2 ^ (length xs * 8) * 256 * 128) 0 + (marks b xs * 256 + cond u 128 0)
    go true u h = omega arith
    go false u h = omega arith

module _ (s : List ℕ) (a : ℕ) where
  -- the marks of n bytes at a place
  marks-at : ℕ → ℕ
  marks-at n = marks 10 (take n (drop a s))

  marks-more : (n : ℕ) (t : Bool) → a + suc n ≤ length s → eqb (get_or s (a + n) 0) 10 ≡ t → marks-at (suc n) ≡ cond t (2 ^ (n * 8) * 128) 0 + marks-at n
  unfolding marks-at
  marks-more n t h e =
      let k : n < length (drop a s) = omega (arith, length-drop a s) in
      let m : length (take n (drop a s)) ≡ n = length-take-le n (drop a s) (omega arith) in
      ap (marks 10) (take-suc (drop a s) n 0 k) ∙ marks-end 10 (take n (drop a s)) (get_or (drop a s) n 0) t (rw get_or-drop e) ∙ ap (λ (i : ℕ). cond t (2 ^ (i * 8) * 128) 0 + marks-at n) m

  -- the last mark of n bytes stands at m, counted from 1: there the line begins that ends after them, and so long is the number
  Top : ℕ → Type 0
  Top n = (m : ℕ) × (m ≤ n) × (line_start s (a + n) ≡ a + m) × (marks-at n < 2 ^ (m * 8)) × (2 ^ (m * 8) ≤ 2 * marks-at n + 1)

  marks-top : (n : ℕ) → a + n ≤ length s → (marks-at n ≡ 0 → ⊥) → Top n
  unfolding Top marks-at marks
  marks-top zero h d = absurd (d refl)
  marks-top (suc n) h d = go (eqb (get_or s (a + n) 0) 10) refl (λ (k : marks-at n ≡ 0 → ⊥). marks-top n (omega arith) k)
    where
      go : (t : Bool) → eqb (get_or s (a + n) 0) 10 ≡ t → ((marks-at n ≡ 0 → ⊥) → Top n) → Top (suc n)
      go true e f =
          let q = marks-more n true h e in
          let l = marks-lt 10 (take n (drop a s)) in
          let w : length (take n (drop a s)) ≡ n = length-take-le n (drop a s) (omega (arith, length-drop a s)) in
          let p : marks-at n < 2 ^ (n * 8) = rw w at l in
          (suc n, omega arith, start-by s (a + n) (a + suc n) (omega arith) ∙ rw e, omega (arith, byte_more n), omega (arith, byte_more n))
      go false e f =
          let q = marks-more n false h e in
          let r = f (λ z. d (omega arith)) in
          (r.0, omega arith, start-by s (a + n) (a + suc n) (omega arith) ∙ rw e r.2, omega arith, omega arith)

  -- the zeros above the last mark, eight to a byte, say how many bytes stand after the last LF
  pub marks-last : (n : ℕ) → a + n ≤ length s → (marks 10 (take n (drop a s)) ≡ 0 → ⊥) → line_start s (a + n) ≡ a + n - count_leading_zeros (n * 8) (marks 10 (take n (drop a s))) / 8
  unfolding Top marks-at
  marks-last n h d =
      let r = marks-top n h d in
      let m = r.0 in
      let u = leading_unique (n * 8) (marks 10 (take n (drop a s))) (n * 8 - m * 8) (m * 8) (omega arith) r.3 r.4 in
      omega arith

  -- bytes without a mark are passed over
  pub marks-pass : (n : ℕ) → a + n ≤ length s → marks 10 (take n (drop a s)) ≡ 0 → line_start s (a + n) ≡ line_start s a
  unfolding marks-at
  marks-pass zero h d = let z : a + 0 ≡ a = omega arith in ap (line_start s) z
  marks-pass (suc n) h d = go (eqb (get_or s (a + n) 0) 10) refl (λ (k : marks-at n ≡ 0). marks-pass n (omega arith) k)
    where
      go : (t : Bool) → eqb (get_or s (a + n) 0) 10 ≡ t → (marks-at n ≡ 0 → line_start s (a + n) ≡ line_start s a) → line_start s (a + suc n) ≡ line_start s a
      go true e f = let q = marks-more n true h e in absurd (omega (arith, pow_pos (n * 8)))
      go false e f = let q = marks-more n false h e in start-by s (a + n) (a + suc n) (omega arith) ∙ rw e (f (omega arith))

-- eight bytes before a place
module _ (s : List ℕ) (j x : ℕ) (h : 8 ≤ j) (k : j ≤ length s) (e : x ≡ marks 10 (take 8 (drop (j - 8) s))) where
  pub start-marked : (x ≡ 0 → ⊥) → line_start s j ≡ j - count_leading_zeros 64 x / 8
  start-marked d =
      let q : j - 8 + 8 ≡ j = omega arith in
      rw e (rw q at (marks-last s (j - 8) 8 (omega arith) (λ z. d (e ∙ z))))

  pub start-unmarked : x ≡ 0 → line_start s j ≡ line_start s (j - 8)
  start-unmarked z =
      let q : j - 8 + 8 ≡ j = omega arith in
      rw q at (marks-pass s (j - 8) 8 (omega arith) (sym e ∙ z))
