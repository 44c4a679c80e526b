-- How far a quote, a pattern and a block comment go, byte by byte. Assumes nothing.
use Prim.Native.Nat.{ℕ, suc, ◌+◌, ◌≤◌, ◌<◌, min}
use mathlib.Core.Path.{◌≡◌, refl, sym, ap, ◌∙◌}
use mathlib.Core.Bool.{Bool, true, false, cond, not, ◌&&◌}
use mathlib.Core.List.{List, [], ◌∷◌}
use native.Mathlib.Omega.{arith}
use native.Mathlib.Numerals.{add-one}
use borrow.Author.Tests.{eq-eqb, ne_eqb}
use lib.Dec.{eqb}
use lib.ListN.{length, drop, get_or, length-drop, drop_of_length-le}
use lib.Seq.{drop-cons, drop-drop, get_or-drop}
use Rattle.lines.proofs.LfLaws.{drop_min}
use Rattle.lines.proofs.Tests.{and-false}
use Rattle.lexical.specs.Lex.{quote_len, pattern_len, comment_len}

-- ---- a length f of what stands at a place of s, one step on

-- the byte at j, and what stands after it
pub cons-at : (s : List ℕ) (j : ℕ) → j < length s → drop j s ≡ get_or s j 0 ∷ drop (j + 1) s
cons-at s j h = drop-cons s j 0 h ∙ ap (λ (n : ℕ). get_or s j 0 ∷ drop n s) (sym (add-one j))

-- the place where f ends, from the place j
abbrev pub ends : (List ℕ → ℕ) → List ℕ → ℕ → ℕ
ends f s j = j + f (drop j s)

module _ (f : List ℕ → ℕ) (s : List ℕ) (j : ℕ) where
  -- the byte at j closes it
  pub ends-here : j < length s → f (get_or s j 0 ∷ drop (j + 1) s) ≡ 1 → ends f s j ≡ j + 1
  ends-here h e = rw (cons-at s j h, e)

  -- the byte at j belongs to it, and g is what is left
  pub ends_on : (g : List ℕ → ℕ) → j < length s → f (get_or s j 0 ∷ drop (j + 1) s) ≡ suc (g (drop (j + 1) s)) → ends f s j ≡ ends g s (j + 1)
  ends_on g h e = rw (cons-at s j h, e) (omega arith)

  -- the byte at j takes the next one along, where there is one
  pub ends-after : (r : ℕ) → r ≡ min (j + 1 + 1) (length s) → j < length s → f (get_or s j 0 ∷ drop (j + 1) s) ≡ min 2 (suc (length (drop (j + 1) s))) + f (drop 1 (drop (j + 1) s)) → ends f s j ≡ ends f s r
  ends-after r q h e =
      let z : drop 1 (drop (j + 1) s) ≡ drop r s = drop-drop 1 (j + 1) s ∙ sym (ap (λ (n : ℕ). drop n s) q ∙ drop_min (j + 1 + 1) s) in
      let w : f (drop j s) ≡ min 2 (suc (length (drop (j + 1) s))) + f (drop r s) = ap f (cons-at s j h) ∙ e ∙ ap (λ (l : List ℕ). min 2 (suc (length (drop (j + 1) s))) + f l) z in
      let k = length-drop (j + 1) s in
      omega arith

  -- nothing is left
  pub ends-none : length s ≤ j → f [] ≡ 0 → ends f s j ≡ j
  ends-none h e = rw (drop_of_length-le s h, e) (omega arith)

-- a byte x that takes the next one along, whatever it is
escape : (f : List ℕ → ℕ) (x : ℕ) → f [] ≡ 0 → f (x ∷ []) ≡ 1 → ((y : ℕ) (m : List ℕ) → f (x ∷ y ∷ m) ≡ suc (suc (f m))) → (l : List ℕ) → f (x ∷ l) ≡ min 2 (suc (length l)) + f (drop 1 l)
escape f x z o t [] = omega (arith, z, o)
escape f x z o t (y ∷ m) = let e = t y m in omega arith

-- ---- a quote

-- the length of a quote q
abbrev pub quotes : ℕ → List ℕ → ℕ
quotes q l = quote_len l q

module _ (x : ℕ) (l : List ℕ) (q : ℕ) where
  quote-here : (x ≡ 92 → ⊥) → x ≡ q → quote_len (x ∷ l) q ≡ 1
  unfolding quote_len
  quote-here n e = go l
    where
      go : (m : List ℕ) → quote_len (x ∷ m) q ≡ 1
      go [] = refl
      go (y ∷ m) = simp (ne_eqb x 92 n, eq-eqb x q e)

  quote-on : (x ≡ 92 → ⊥) → (x ≡ q → ⊥) → quote_len (x ∷ l) q ≡ suc (quote_len l q)
  unfolding quote_len
  quote-on n m = go l
    where
      go : (r : List ℕ) → quote_len (x ∷ r) q ≡ suc (quote_len r q)
      go [] = refl
      go (y ∷ r) = simp (ne_eqb x 92 n, ne_eqb x q m)

module _ (q : ℕ) (s : List ℕ) (j : ℕ) where
  pub quote-after : (r : ℕ) → r ≡ min (j + 1 + 1) (length s) → j < length s → get_or s j 0 ≡ 92 → ends (quotes q) s j ≡ ends (quotes q) s r
  unfolding quote_len
  quote-after r e h x = ends-after (quotes q) s j r e h (escape (quotes q) (get_or s j 0) refl refl (λ y m. rw x) (drop (j + 1) s))

  pub quote-close : j < length s → (get_or s j 0 ≡ 92 → ⊥) → get_or s j 0 ≡ q → ends (quotes q) s j ≡ j + 1
  quote-close h n e = ends-here (quotes q) s j h (quote-here (get_or s j 0) (drop (j + 1) s) q n e)

  pub quote-more : j < length s → (get_or s j 0 ≡ 92 → ⊥) → (get_or s j 0 ≡ q → ⊥) → ends (quotes q) s j ≡ ends (quotes q) s (j + 1)
  quote-more h n m = ends_on (quotes q) s j (quotes q) h (quote-on (get_or s j 0) (drop (j + 1) s) q n m)

  pub quote-none : length s ≤ j → ends (quotes q) s j ≡ j
  unfolding quote_len
  quote-none h = ends-none (quotes q) s j h refl

-- ---- a pattern

-- the length of a pattern, inside a class or not
abbrev pub patterns : Bool → List ℕ → ℕ
patterns b l = pattern_len l b

module _ (x : ℕ) (l : List ℕ) (b : Bool) where
  -- a byte that does not close it, where d says whether what follows is inside a class
  pattern-on : (d : Bool) → (x ≡ 92 → ⊥) → cond (eqb x 91) true (cond (eqb x 93) false b) ≡ d → eqb x 47 && not d ≡ false → pattern_len (x ∷ l) b ≡ suc (pattern_len l d)
  unfolding pattern_len
  pattern-on d n e m = go l
    where
      pick : (u v : Bool) (f : Bool → ℕ) → cond u true (cond v false b) ≡ d → cond u (f true) (cond v (f false) (cond (eqb x 47 && not b) 1 (f b))) ≡ f d
      pick true v f e = ap f e
      pick false true f e = ap f e
      pick false false f e = rw (e, m)

      go : (r : List ℕ) → pattern_len (x ∷ r) b ≡ suc (pattern_len r d)
      go [] = refl
      go (y ∷ r) = rw (ne_eqb x 92 n) (pick (eqb x 91) (eqb x 93) (λ (c : Bool). suc (pattern_len (y ∷ r) c)) e)

  pattern-here : x ≡ 47 → b ≡ false → pattern_len (x ∷ l) b ≡ 1
  unfolding pattern_len
  pattern-here e n = go l
    where
      go : (r : List ℕ) → pattern_len (x ∷ r) b ≡ 1
      go [] = refl
      go (y ∷ r) = rw (e, n)

module _ (b : Bool) (s : List ℕ) (j : ℕ) where
  pub pattern-after : (r : ℕ) → r ≡ min (j + 1 + 1) (length s) → j < length s → get_or s j 0 ≡ 92 → ends (patterns b) s j ≡ ends (patterns b) s r
  unfolding pattern_len
  pattern-after r e h x = ends-after (patterns b) s j r e h (escape (patterns b) (get_or s j 0) refl refl (λ y m. rw x) (drop (j + 1) s))

  pub pattern-close : j < length s → get_or s j 0 ≡ 47 → b ≡ false → ends (patterns b) s j ≡ j + 1
  pattern-close h x n = ends-here (patterns b) s j h (pattern-here (get_or s j 0) (drop (j + 1) s) b x n)

  pattern-step : (d : Bool) → j < length s → (get_or s j 0 ≡ 92 → ⊥) → cond (eqb (get_or s j 0) 91) true (cond (eqb (get_or s j 0) 93) false b) ≡ d → eqb (get_or s j 0) 47 && not d ≡ false → ends (patterns b) s j ≡ ends (patterns d) s (j + 1)
  pattern-step d h n e m = ends_on (patterns b) s j (patterns d) h (pattern-on (get_or s j 0) (drop (j + 1) s) b d n e m)

  pub pattern-open : j < length s → get_or s j 0 ≡ 91 → ends (patterns b) s j ≡ ends (patterns true) s (j + 1)
  pattern-open h x = pattern-step true h (omega arith) (rw x) (rw x)

  pub pattern-shut : j < length s → get_or s j 0 ≡ 93 → ends (patterns b) s j ≡ ends (patterns false) s (j + 1)
  pattern-shut h x = pattern-step false h (omega arith) (rw x) (rw x)

  pub pattern-inside : j < length s → get_or s j 0 ≡ 47 → b ≡ true → ends (patterns b) s j ≡ ends (patterns b) s (j + 1)
  pattern-inside h x n = pattern-step b h (omega arith) (rw x) (rw (x, n))

  pub pattern-more : j < length s → (get_or s j 0 ≡ 92 → ⊥) → (get_or s j 0 ≡ 91 → ⊥) → (get_or s j 0 ≡ 93 → ⊥) → (get_or s j 0 ≡ 47 → ⊥) → ends (patterns b) s j ≡ ends (patterns b) s (j + 1)
  pattern-more h n₁ n₂ n₃ n₄ = pattern-step b h n₁ (rw (ne_eqb (get_or s j 0) 91 n₂, ne_eqb (get_or s j 0) 93 n₃)) (rw (ne_eqb (get_or s j 0) 47 n₄))

  pub pattern-none : length s ≤ j → ends (patterns b) s j ≡ j
  unfolding pattern_len
  pattern-none h = ends-none (patterns b) s j h refl

-- ---- a block comment

comment-here : (x : ℕ) (l : List ℕ) → x ≡ 42 → get_or l 0 0 ≡ 47 → comment_len (x ∷ l) ≡ 2
unfolding comment_len
comment-here x [] e k = absurd (omega arith)
comment-here x (y ∷ l) e k = rw (e, k)

comment-on : (x : ℕ) (l : List ℕ) → eqb x 42 && eqb (get_or l 0 0) 47 ≡ false → comment_len (x ∷ l) ≡ suc (comment_len l)
unfolding comment_len
comment-on x [] e = refl
comment-on x (y ∷ l) e = rw e

module _ (s : List ℕ) (j : ℕ) where
  -- the byte after the one at j
  pub next-byte : get_or (drop (j + 1) s) 0 0 ≡ get_or s (j + 1) 0
  next-byte = get_or-drop (j + 1) s 0 0 ∙ ap (λ (n : ℕ). get_or s n 0) (omega arith)

  pub comment-close : j < length s → get_or s j 0 ≡ 42 → get_or s (j + 1) 0 ≡ 47 → ends comment_len s j ≡ j + 1 + 1
  comment-close h x y =
      let c : comment_len (drop j s) ≡ 2 = ap comment_len (cons-at s j h) ∙ comment-here (get_or s j 0) (drop (j + 1) s) x (next-byte ∙ y) in
      omega arith

  comment-step : j < length s → eqb (get_or s j 0) 42 && eqb (get_or s (j + 1) 0) 47 ≡ false → ends comment_len s j ≡ ends comment_len s (j + 1)
  comment-step h e = ends_on comment_len s j comment_len h (comment-on (get_or s j 0) (drop (j + 1) s) (rw next-byte e))

  pub comment-star : j < length s → (get_or s (j + 1) 0 ≡ 47 → ⊥) → ends comment_len s j ≡ ends comment_len s (j + 1)
  comment-star h n = comment-step h (rw (ne_eqb (get_or s (j + 1) 0) 47 n) (and-false (eqb (get_or s j 0) 42)))

  pub comment-more : j < length s → (get_or s j 0 ≡ 42 → ⊥) → ends comment_len s j ≡ ends comment_len s (j + 1)
  comment-more h n = comment-step h (rw (ne_eqb (get_or s j 0) 42 n))

  pub comment-none : length s ≤ j → ends comment_len s j ≡ j
  unfolding comment_len
  comment-none h = ends-none comment_len s j h refl

-- ---- none goes past the end

pub quote-le : (l : List ℕ) (q : ℕ) → quote_len l q ≤ length l
unfolding quote_len
quote-le [] q = omega arith
quote-le (x ∷ []) q = omega arith
quote-le (x ∷ y ∷ l) q = go (eqb x 92) (eqb x q) (quote-le l q) (quote-le (y ∷ l) q)
  where
    go : (u v : Bool) → quote_len l q ≤ length l → quote_len (y ∷ l) q ≤ suc (length l) → cond u (suc (suc (quote_len l q))) (cond v 1 (suc (quote_len (y ∷ l) q))) ≤ suc (suc (length l))
    go true v a b = omega arith
    go false true a b = omega arith
    go false false a b = omega arith

pub pattern-le : (l : List ℕ) (b : Bool) → pattern_len l b ≤ length l
unfolding pattern_len
pattern-le [] b = omega arith
pattern-le (x ∷ []) b = omega arith
pattern-le (x ∷ y ∷ l) b = go (eqb x 92) (eqb x 91) (eqb x 93) (eqb x 47 && not b) (pattern-le l b) (pattern-le (y ∷ l) true) (pattern-le (y ∷ l) false) (pattern-le (y ∷ l) b)
  where
    go : (u v w z : Bool) {k m n o : ℕ} → k ≤ length l → m ≤ suc (length l) → n ≤ suc (length l) → o ≤ suc (length l) → cond u (suc (suc k)) (cond v (suc m) (cond w (suc n) (cond z 1 (suc o)))) ≤ suc (suc (length l))
    go true v w z p q r s = omega arith
    go false true w z p q r s = omega arith
    go false false true z p q r s = omega arith
    go false false false true p q r s = omega arith
    go false false false false p q r s = omega arith

pub comment-le : (l : List ℕ) → comment_len l ≤ length l
unfolding comment_len
comment-le [] = omega arith
comment-le (x ∷ []) = omega arith
comment-le (x ∷ y ∷ l) = go (eqb x 42 && eqb y 47) (comment-le (y ∷ l))
  where
    go : (u : Bool) → comment_len (y ∷ l) ≤ suc (length l) → cond u 2 (suc (comment_len (y ∷ l))) ≤ suc (suc (length l))
    go true h = omega arith
    go false h = omega arith
