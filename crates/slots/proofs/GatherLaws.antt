-- Laws of the numbers of a text. Assumes nothing.
use Rattle.std.proofs.Common.{◌≡◌, ℕ, ◌+◌, ◌%◌, ◌^◌, ◌<◌, ◌≤◌, min, max, Bool, true, false, cond, ◌&&◌, ◌||◌, ltb, List, [], ◌∷◌, length, get_or, drop, sym, refl, ap, ◌∙◌, add-one, arith, length-drop, length-set, drop_of_length-le, get_or-drop, drop-cons, ltb-false, ltb-true, le-ltb, lt-ltb}
use Rattle.lines.proofs.Tests.{or-false, and-false, is-in, is_below, is-above}
use Rattle.names.specs.Names.{is_digit}
use Rattle.slots.specs.Inner.Slots.{spot, claimed}
use Rattle.slots.specs.Inner.Gather.{four_digits, has_long, grown, entered, is_mark, entered_all}

-- ---- looking for four digits

-- how far a byte stands above `0`, by a difference that wraps
pub above-digit : (r b : ℕ) → r < 256 → (r + 48) % 2 ^ 8 ≡ b → ltb r 10 ≡ is_digit b
above-digit r b h e = go (ltb r 208) refl
  where
    low : r < 208 → b ≡ r + 48
    low g = omega (arith, e, g)

    high : 208 ≤ r → b < 48
    high g = omega (arith, e, g, h)

    digit : r < 208 → (t : Bool) → ltb r 10 ≡ t → t ≡ is_digit b
    digit g true k = sym (is-in 48 57 b (omega (arith, low g)) (let l = ltb-true r 10 k in omega (arith, low g, l)))
    digit g false k = sym (is-above 48 57 b (let l = ltb-false r 10 k in omega (arith, low g, l)))

    go : (t : Bool) → ltb r 208 ≡ t → ltb r 10 ≡ is_digit b
    go true k = digit (ltb-true r 208 k) (ltb r 10) refl
    go false k = let l = ltb-false r 208 k in le-ltb r 10 (omega (arith, l)) ∙ sym (is_below 48 57 b (high l))

-- the greater of two is below a bound where both are
pub max-below : (a b n : ℕ) → ltb (max a b) n ≡ ltb a n && ltb b n
max-below a b n = go (ltb a n) refl (ltb b n) refl
  where
    go : (s : Bool) → ltb a n ≡ s → (t : Bool) → ltb b n ≡ t → ltb (max a b) n ≡ s && t
    go true e true f = let p = ltb-true a n e in let q = ltb-true b n f in lt-ltb (max a b) n (omega (arith, p, q))
    go true e false f = let q = ltb-false b n f in le-ltb (max a b) n (omega (arith, q))
    go false e t f = let p = ltb-false a n e in le-ltb (max a b) n (omega (arith, p))

-- the greatest of four
pub four_below : (t : List ℕ) (i a b c d : ℕ) {f g r : ℕ} → ltb a 10 ≡ is_digit (get_or t i 0) → ltb b 10 ≡ is_digit (get_or t (i + 1) 0) → ltb c 10 ≡ is_digit (get_or t (i + 2) 0) → ltb d 10 ≡ is_digit (get_or t (i + 3) 0)
    → f ≡ max a b → g ≡ max c d → r ≡ max f g → ltb r 10 ≡ four_digits (drop i t)
four_below t i a b c d {f} {g} {r} p q u v x y z =
    let o : i + 0 ≡ i = omega arith in
    ap (λ (m : ℕ). ltb m 10) z ∙ max-below f g 10
    ∙ rw (x, y, max-below a b 10, max-below c d 10, p, q, u, v, get_or-drop i t 0 0, get_or-drop i t 1 0, get_or-drop i t 2 0, get_or-drop i t 3 0, o)

-- the least of what was seen is x or what it was
pub least-new : (x m : ℕ) (b : Bool) → x < m → ltb m 10 || (ltb x 10 || b) ≡ ltb x 10 || b
least-new x m b h = go (ltb m 10) refl
  where
    go : (t : Bool) → ltb m 10 ≡ t → t || (ltb x 10 || b) ≡ ltb x 10 || b
    go true e = let l = ltb-true m 10 e in sym (ap (λ (s : Bool). s || b) (lt-ltb x 10 (omega (arith, h, l))))
    go false e = refl

pub least-old : (x m : ℕ) (b : Bool) → m ≤ x → ltb m 10 || (ltb x 10 || b) ≡ ltb m 10 || b
least-old x m b h = go (ltb m 10) refl
  where
    go : (t : Bool) → ltb m 10 ≡ t → t || (ltb x 10 || b) ≡ t || b
    go true e = refl
    go false e = let l = ltb-false m 10 e in ap (λ (s : Bool). s || b) (le-ltb x 10 (omega (arith, h, l)))

-- m is the least of what was seen of a text, and x what is seen at its place i
module _ (t : List ℕ) (i m : ℕ) where
  module _ (x : ℕ) (h : i < length t) (e : ltb x 10 ≡ four_digits (drop i t)) where
    long-here : has_long (drop i t) ≡ ltb x 10 || has_long (drop (i + 1) t)
    unfolding has_long
    long-here = rw (e, add-one i, drop-cons t i 0 h)

    long-new : x < m → ltb x 10 || has_long (drop (i + 1) t) ≡ ltb m 10 || has_long (drop i t)
    long-new l = sym (ap (λ (b : Bool). ltb m 10 || b) long-here ∙ least-new x m (has_long (drop (i + 1) t)) l)

    long-old : m ≤ x → ltb m 10 || has_long (drop (i + 1) t) ≡ ltb m 10 || has_long (drop i t)
    long-old l = sym (ap (λ (b : Bool). ltb m 10 || b) long-here ∙ least-old x m (has_long (drop (i + 1) t)) l)

    pub long-least : (r : ℕ) → r ≡ min m x → ltb r 10 || has_long (drop (i + 1) t) ≡ ltb m 10 || has_long (drop i t)
    long-least r q = go (ltb x m) refl
      where
        go : (b : Bool) → ltb x m ≡ b → ltb r 10 || has_long (drop (i + 1) t) ≡ ltb m 10 || has_long (drop i t)
        go true k = let l = ltb-true x m k in let z : r ≡ x = omega arith in rw z (long-new l)
        go false k = let l = ltb-false x m k in let z : r ≡ m = omega arith in rw z (long-old l)

  -- three bytes are too few
  pub long-none : length t ≤ i + 3 → has_long (drop i t) ≡ false
  unfolding has_long
  long-none h = let l = length-drop i t in go (drop i t) (omega (arith, l, h))
    where
      go : (s : List ℕ) → length s ≤ 3 → has_long s ≡ false
      go [] k = refl
      go (a ∷ []) k = simp (and-false)
      go (a ∷ b ∷ []) k = simp (and-false)
      go (a ∷ b ∷ c ∷ []) k = simp (and-false)
      go (a ∷ b ∷ c ∷ d ∷ s) k = absurd (omega (arith, k))

  pub long-end : length t ≤ i + 3 → ltb m 10 ≡ ltb m 10 || has_long (drop i t)
  long-end h = sym (ap (λ (b : Bool). ltb m 10 || b) (long-none h) ∙ or-false (ltb m 10))

-- ---- entering numbers

pub entered-length : (low v : ℕ) (own : List ℕ) → length (entered low v own) ≡ length own
entered-length low v own = by (ltb v low)
  where
    by : (b : Bool) → length (cond b own (claimed v own)) ≡ length own
    by true = refl
    by false = length-set own (spot own v) v

pub all-length : (low : ℕ) (m : Bool) (v : ℕ) (t own : List ℕ) → length (entered_all low m v t own) ≡ length own
unfolding entered_all
all-length low m v [] own = entered-length low v own
all-length low m v (b ∷ t) own = by (is_digit b) (all-length low m (cond m (grown v b) v) t own) (all-length low (is_mark b) 0 t (entered low v own) ∙ entered-length low v own)
  where
    by : (a : Bool) → length (entered_all low m (cond m (grown v b) v) t own) ≡ length own → length (entered_all low (is_mark b) 0 t (entered low v own)) ≡ length own
        → length (cond a (entered_all low m (cond m (grown v b) v) t own) (entered_all low (is_mark b) 0 t (entered low v own))) ≡ length own
    by true h g = h
    by false h g = g

module _ (low : ℕ) (t : List ℕ) (i : ℕ) (m : Bool) (v : ℕ) (own : List ℕ) where
  pub enter-digit : i < length t → is_digit (get_or t i 0) ≡ true → entered_all low m v (drop i t) own ≡ entered_all low m (cond m (grown v (get_or t i 0)) v) (drop (i + 1) t) own
  unfolding entered_all
  enter-digit h e = rw (add-one i, drop-cons t i 0 h, e)

  pub enter-marked : i < length t → is_digit (get_or t i 0) ≡ true → m ≡ true → entered_all low m v (drop i t) own ≡ entered_all low m (grown v (get_or t i 0)) (drop (i + 1) t) own
  enter-marked h e k = enter-digit h e ∙ ap (λ (a : Bool). entered_all low m (cond a (grown v (get_or t i 0)) v) (drop (i + 1) t) own) k

  pub enter-bare : i < length t → is_digit (get_or t i 0) ≡ true → m ≡ false → entered_all low m v (drop i t) own ≡ entered_all low m v (drop (i + 1) t) own
  enter-bare h e k = enter-digit h e ∙ ap (λ (a : Bool). entered_all low m (cond a (grown v (get_or t i 0)) v) (drop (i + 1) t) own) k

  pub enter-other : i < length t → is_digit (get_or t i 0) ≡ false → entered_all low m v (drop i t) own ≡ entered_all low (is_mark (get_or t i 0)) 0 (drop (i + 1) t) (entered low v own)
  unfolding entered_all
  enter-other h e = rw (add-one i, drop-cons t i 0 h, e)

  pub enter-on : (m' : Bool) (own' : List ℕ) → i < length t → is_digit (get_or t i 0) ≡ false → own' ≡ entered low v own → m' ≡ is_mark (get_or t i 0)
      → entered_all low m v (drop i t) own ≡ entered_all low m' 0 (drop (i + 1) t) own'
  enter-on m' own' h e p q =
      enter-other h e
      ∙ ap (λ (o : List ℕ). entered_all low (is_mark (get_or t i 0)) 0 (drop (i + 1) t) o) (sym p)
      ∙ ap (λ (a : Bool). entered_all low a 0 (drop (i + 1) t) own') (sym q)

  pub enter-end : length t ≤ i → entered_all low m v (drop i t) own ≡ entered low v own
  unfolding entered_all
  enter-end h = rw (drop_of_length-le t h)
