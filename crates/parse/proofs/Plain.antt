-- A name that is plainly a register, and a line that is plainly a store. Assumes nothing.
use Prim.Native.Nat.{ℕ, zero, suc, ◌+◌, ◌-◌, ◌^◌, ◌≤◌, ◌<◌}
use mathlib.Core.Path.{◌≡◌, refl, sym, ap, ◌∙◌}
use mathlib.Core.Bool.{Bool, true, false, cond, not, ◌&&◌, ◌||◌}
use mathlib.Core.List.{List, [], ◌∷◌}
use native.Mathlib.Nat.{pow-le-pow_right}
use native.Mathlib.Omega.{arith}
use native.Mathlib.Numerals.{add-one}
use borrow.Author.Tests.{eq-eqb, ne_eqb, eqb-true, le-leb, lt-ltb, ltb-true, ltb-false, leb-true}
use lib.Dec.{eqb, leb, ltb}
use lib.ListN.{length, take, drop, get_or, length-drop, drop_of_length-le, get_or-eq_default}
use lib.Seq.{drop-cons, take_all, take-length, get_or-drop, length-take-le}
use Rattle.lines.specs.Lf.{part, up_to, prefixed}
use Rattle.lines.proofs.Tests.{no, and_left, and_right, and_both, is-in, is_below, is-above}
use Rattle.text.specs.Trim.{white_char, white_head, lead, from_of, to_of, trim_start, trim_of}
use Rattle.text.specs.White.{is_white}
use Rattle.text.specs.Utf8Form.{seq_len}
use Rattle.text.proofs.Trims.{front-told, back-told}
use Rattle.names.specs.Names.{is_digit, all_digits, value, reg_by, reg_of, is_reg}
use Rattle.std.specs.declared.option.Option.{Option}
use Rattle.names.proofs.Digits.{number-is}
use Rattle.names.proofs.Decimal.{value-lt}
use Rattle.parse.specs.Inner.Parse.{digits_len, short_reg, plain_byte}

-- ---- digits at the front

digits-cons : (x : ℕ) (xs : List ℕ) (b : Bool) → is_digit x ≡ b → digits_len (x ∷ xs) ≡ cond b (suc (digits_len xs)) 0
unfolding digits_len
digits-cons x xs b e = rw e

module _ (s : List ℕ) (j : ℕ) where
  pub digits-here : j < length s → is_digit (get_or s j 0) ≡ false → digits_len (drop j s) ≡ 0
  digits-here h e = rw (drop-cons s j 0 h) (digits-cons (get_or s j 0) (drop (suc j) s) false e)

  pub digits-on : j < length s → is_digit (get_or s j 0) ≡ true → digits_len (drop j s) ≡ suc (digits_len (drop (j + 1) s))
  digits-on h e = rw (add-one j, drop-cons s j 0 h) (digits-cons (get_or s j 0) (drop (suc j) s) true e)

  pub digits-end : length s ≤ j → digits_len (drop j s) ≡ 0
  unfolding digits_len
  digits-end h = rw (drop_of_length-le s h)

pub digits-all : (l : List ℕ) → (digits_len l ≤ length l) × (all_digits (take (digits_len l) l) ≡ true)
unfolding digits_len
digits-all [] = (omega arith, refl)
digits-all (x ∷ xs) = go (is_digit x) refl (digits-all xs)
  where
    go : (b : Bool) → is_digit x ≡ b → (digits_len xs ≤ length xs) × (all_digits (take (digits_len xs) xs) ≡ true) →
        (cond b (suc (digits_len xs)) 0 ≤ suc (length xs)) × (all_digits (take (cond b (suc (digits_len xs)) 0) (x ∷ xs)) ≡ true)
    go true e r = (omega (arith, r.0), and_both e r.1)
    go false e r = (omega arith, refl)

-- a byte that is no digit stands behind them, or the end
pub digits_up : (b : ℕ) (l : List ℕ) → is_digit b ≡ false → (digits_len l < length l → get_or l (digits_len l) 0 ≡ b) → up_to b l ≡ digits_len l
unfolding digits_len up_to
digits_up b [] n h = refl
digits_up b (x ∷ xs) n h = go (is_digit x) refl h (digits_up b xs n)
  where
    other : is_digit x ≡ true → x ≡ b → ⊥
    other e q = no (sym (ap (λ (k : ℕ). is_digit k) q ∙ n) ∙ e)

    go : (t : Bool) → is_digit x ≡ t → (cond t (suc (digits_len xs)) 0 < suc (length xs) → get_or (x ∷ xs) (cond t (suc (digits_len xs)) 0) 0 ≡ b) →
        ((digits_len xs < length xs → get_or xs (digits_len xs) 0 ≡ b) → up_to b xs ≡ digits_len xs) → cond (eqb x b) 0 (suc (up_to b xs)) ≡ cond t (suc (digits_len xs)) 0
    go true e f on = rw (ne_eqb x b (other e)) (ap suc (on (λ k. f (omega arith))))
    go false e f on = rw (eq-eqb x b (f (omega arith)))

-- one other byte stands behind them, and then b
pub digits-past : (b : ℕ) (l : List ℕ) → is_digit b ≡ false → digits_len l + 1 < length l → (get_or l (digits_len l) 0 ≡ b → ⊥) → get_or l (digits_len l + 1) 0 ≡ b → up_to b l ≡ digits_len l + 1
unfolding digits_len up_to
digits-past b [] n k h e = absurd (omega arith)
digits-past b (x ∷ xs) n k h e = go (is_digit x) refl k h e (digits-past b xs n)
  where
    other : is_digit x ≡ true → x ≡ b → ⊥
    other e q = no (sym (ap (λ (k : ℕ). is_digit k) q ∙ n) ∙ e)

    next : (xs : List ℕ) → 0 < length xs → get_or xs 0 0 ≡ b → up_to b xs ≡ 0
    next [] k e = absurd (omega arith)
    next (y ∷ ys) k e = rw (eq-eqb y b e)

    go : (t : Bool) → is_digit x ≡ t → cond t (suc (digits_len xs)) 0 + 1 < suc (length xs) → (get_or (x ∷ xs) (cond t (suc (digits_len xs)) 0) 0 ≡ b → ⊥) → get_or (x ∷ xs) (cond t (suc (digits_len xs)) 0 + 1) 0 ≡ b →
        (digits_len xs + 1 < length xs → (get_or xs (digits_len xs) 0 ≡ b → ⊥) → get_or xs (digits_len xs + 1) 0 ≡ b → up_to b xs ≡ digits_len xs + 1) → cond (eqb x b) 0 (suc (up_to b xs)) ≡ cond t (suc (digits_len xs)) 0 + 1
    go true q k h e on =
        let z : suc (digits_len xs) + 1 ≡ suc (digits_len xs + 1) = omega arith in
        let r : up_to b xs ≡ digits_len xs + 1 = on (omega arith) h (ap (λ (i : ℕ). get_or (x ∷ xs) i 0) (sym z) ∙ e) in
        rw (ne_eqb x b (other q)) (omega arith)
    go false q k h e on = let r : up_to b xs ≡ 0 = next xs (omega arith) e in rw (ne_eqb x b h) (omega arith)

-- the first b is as far in what is taken, where that reaches to it
pub up-take : (b n : ℕ) (l : List ℕ) → up_to b l ≤ n → up_to b (take n l) ≡ up_to b l
unfolding up_to
up-take b zero [] h = refl
up-take b (suc n) [] h = refl
up-take b zero (x ∷ l) h = omega arith
up-take b (suc n) (x ∷ l) h = go (eqb x b) h (up-take b n l)
  where
    go : (t : Bool) → cond t 0 (suc (up_to b l)) ≤ suc n → (up_to b l ≤ n → up_to b (take n l) ≡ up_to b l) → cond t 0 (suc (up_to b (take n l))) ≡ cond t 0 (suc (up_to b l))
    go true k f = refl
    go false k f = ap suc (f (omega arith))

-- ---- a text whose first and last bytes are no white space

pub plain-is : (b : ℕ) → 32 < b → b < 128 → plain_byte b ≡ true
plain-is b h k = and_both (lt-ltb 32 b h) (lt-ltb b 128 k)

pub plain-above : (b : ℕ) → plain_byte b ≡ true → 32 < b
plain-above b t = ltb-true 32 b (and_left (ltb 32 b) (ltb b 128) t)

pub plain-below : (b : ℕ) → plain_byte b ≡ true → b < 128
plain-below b t = ltb-true b 128 (and_right (ltb 32 b) (ltb b 128) t)

pub starts-plain : (w : List ℕ) → plain_byte (get_or w 0 0) ≡ true → 0 ≡ from_of w
starts-plain w t = front-told w 0 (get_or w 0 0) (omega arith) (omega arith) refl (plain-above (get_or w 0 0) t) (plain-below (get_or w 0 0) t)

pub ends-plain : (w : List ℕ) → 0 < length w → plain_byte (get_or w (length w - 1) 0) ≡ true → length w ≡ to_of w
unfolding to_of
ends-plain w h t =
    let c : ℕ = get_or w (length w - 1) 0 in
    back-told w (length w) c (omega arith) refl (sym (ap (λ (b : Bool). cond b c 0) (le-leb 1 (length w) h))) (plain-above c t) (plain-below c t)

trim-plain : (w : List ℕ) → 0 < length w → plain_byte (get_or w 0 0) ≡ true → plain_byte (get_or w (length w - 1) 0) ≡ true → trim_of w ≡ w
unfolding trim_of
trim-plain w h f g =
    ap (λ (n : ℕ). take (to_of (drop n w)) (drop n w)) (sym (starts-plain w f)) ∙ ap (λ (n : ℕ). take n w) (sym (ends-plain w h g)) ∙ take-length w

-- a space is passed
pub space-start : (l : List ℕ) → trim_start (32 ∷ l) ≡ trim_start l
unfolding from_of lead white_head white_char seq_len is_white
space-start l = refl

space-trim : (l : List ℕ) → trim_of (32 ∷ l) ≡ trim_of l
unfolding trim_of
space-trim l = ap (λ (r : List ℕ). take (to_of r) r) (space-start l)

-- ---- a plain name

digit-plain : (d : ℕ) → is_digit d ≡ true → plain_byte d ≡ true
digit-plain d e =
    let a = leb-true 48 d (and_left (leb 48 d) (leb d 57) e) in
    let b = leb-true d 57 (and_right (leb 48 d) (leb d 57) e) in
    plain-is d (omega arith) (omega arith)

digits-get : (ds : List ℕ) (j : ℕ) → all_digits ds ≡ true → j < length ds → is_digit (get_or ds j 0) ≡ true
digits-get [] j e h = absurd (omega arith)
digits-get (d ∷ ds) zero e h = and_left (is_digit d) (all_digits ds) e
digits-get (d ∷ ds) (suc j) e h = digits-get ds j (and_right (is_digit d) (all_digits ds) e) (omega arith)

-- its last byte is `r`, or a digit
pub name-last : (ds : List ℕ) → all_digits ds ≡ true → plain_byte (get_or (114 ∷ ds) (length ds) 0) ≡ true
name-last [] e = refl
name-last (d ∷ ds) e = digit-plain (get_or (d ∷ ds) (length ds) 0) (digits-get (d ∷ ds) (length ds) e (omega arith))

name-trim : (ds : List ℕ) → all_digits ds ≡ true → trim_of (114 ∷ ds) ≡ 114 ∷ ds
name-trim ds e =
    let z : suc (length ds) - 1 ≡ length ds = omega arith in
    trim-plain (114 ∷ ds) (omega arith) refl (ap (λ (n : ℕ). plain_byte (get_or (114 ∷ ds) n 0)) z ∙ name-last ds e)

name-reg : (ds : List ℕ) → all_digits ds ≡ true → 0 < length ds → length ds ≤ 9 → is_reg (reg_of (114 ∷ ds)) ≡ true
unfolding reg_of prefixed
name-reg ds e h k =
    let p : 10 ^ length ds ≤ 10 ^ 9 = pow-le-pow_right (omega arith) k in
    let v : value 0 ds < 2 ^ 64 = omega (arith, value-lt ds 0 e) in
    ap (λ (n : Option ℕ). is_reg (reg_by n)) (number-is ds h e v)

module _ (l : List ℕ) (h : 1 ≤ digits_len l) (k : digits_len l ≤ 9) (c : digits_len l < length l → get_or l (digits_len l) 0 ≡ 44) where
  name-up : up_to 44 (114 ∷ l) ≡ suc (digits_len l)
  unfolding up_to
  name-up = ap suc (digits_up 44 l refl c)

  name-is : is_reg (reg_of (trim_of (114 ∷ take (digits_len l) l))) ≡ true
  name-is =
      let d = digits-all l in
      let n = length-take-le (digits_len l) l d.0 in
      ap (λ (r : List ℕ). is_reg (reg_of r)) (name-trim (take (digits_len l) l) d.1) ∙ name-reg (take (digits_len l) l) d.1 (omega arith) (omega arith)

  -- from its first byte on, and from a space before it
  pub plain-bare : (up_to 44 (114 ∷ l) ≡ suc (digits_len l)) × (is_reg (reg_of (trim_of (take (suc (digits_len l)) (114 ∷ l)))) ≡ true)
  plain-bare = (name-up, name-is)

  pub plain-spaced : (up_to 44 (32 ∷ 114 ∷ l) ≡ suc (suc (digits_len l))) × (is_reg (reg_of (trim_of (take (suc (suc (digits_len l))) (32 ∷ 114 ∷ l)))) ≡ true)
  unfolding up_to
  plain-spaced = (ap suc name-up, ap (λ (r : List ℕ). is_reg (reg_of r)) (space-trim (114 ∷ take (digits_len l) l)) ∙ name-is)

-- ---- at a place

-- a place where a byte stands that is not 0 is inside
pub inside : (s : List ℕ) (n : ℕ) → (get_or s n 0 ≡ 0 → ⊥) → n < length s
inside s n h = go (ltb n (length s)) refl
  where
    go : (t : Bool) → ltb n (length s) ≡ t → n < length s
    go true e = ltb-true n (length s) e
    go false e = absurd (h (get_or-eq_default s 0 (ltb-false n (length s) e)))

-- the test of a byte that is no digit
pub digit-test : (x : ℕ) (b : Bool) → ltb x 48 || ltb 57 x ≡ b → is_digit x ≡ not b
digit-test x b h = go (ltb x 48) refl (ltb 57 x) refl h
  where
    go : (t : Bool) → ltb x 48 ≡ t → (u : Bool) → ltb 57 x ≡ u → t || u ≡ b → is_digit x ≡ not b
    go true e u f g = is_below 48 57 x (ltb-true x 48 e) ∙ ap not g
    go false e true f g = is-above 48 57 x (ltb-true 57 x f) ∙ ap not g
    go false e false f g = is-in 48 57 x (ltb-false x 48 e) (ltb-false 57 x f) ∙ ap not g

-- from an `r` on
pub name-at : (s : List ℕ) (a : ℕ) → get_or s a 0 ≡ 114 → drop a s ≡ 114 ∷ drop (a + 1) s
name-at s a r =
    let h : a < length s = inside s a (λ z. absurd (omega arith)) in
    drop-cons s a 0 h ∙ ap (λ (x : ℕ). x ∷ drop (suc a) s) r ∙ ap (λ (n : ℕ). 114 ∷ drop n s) (sym (add-one a))

module _ (s : List ℕ) (i a e : ℕ) (p : a ≡ cond (eqb (get_or s i 0) 32) (i + 1) i) (r : get_or s a 0 ≡ 114) (q : e ≡ a + 1 + digits_len (drop (a + 1) s)) where
  abbrev rest : List ℕ
  rest = drop (a + 1) s

  pub plain_at : 2 ≤ e - a → e - a ≤ 10 → (e < length s → get_or s e 0 ≡ 44) → (e ≡ i + up_to 44 (drop i s)) × (is_reg (reg_of (trim_of (part i e s))) ≡ true)
  plain_at lo hi c = go (eqb (get_or s i 0) 32) refl p
    where
      ends : digits_len rest < length rest → get_or rest (digits_len rest) 0 ≡ 44
      ends k = get_or-drop (a + 1) s (digits_len rest) 0 ∙ ap (λ (n : ℕ). get_or s n 0) (sym q) ∙ c (omega (arith, length-drop (a + 1) s))

      so-is : (m : ℕ) (x : List ℕ) → drop i s ≡ x → e ≡ i + m → (up_to 44 x ≡ m) × (is_reg (reg_of (trim_of (take m x))) ≡ true) → (e ≡ i + up_to 44 (drop i s)) × (is_reg (reg_of (trim_of (part i e s))) ≡ true)
      so-is m x d z k =
          let y : e - i ≡ m = omega arith in (
            z ∙ ap (λ (n : ℕ). i + n) (sym (ap (up_to 44) d ∙ k.0)),
            ap (λ (n : ℕ). is_reg (reg_of (trim_of (take n (drop i s))))) y ∙ ap (λ (l : List ℕ). is_reg (reg_of (trim_of (take m l)))) d ∙ k.1,
          )

      go : (t : Bool) → eqb (get_or s i 0) 32 ≡ t → a ≡ cond t (i + 1) i → (e ≡ i + up_to 44 (drop i s)) × (is_reg (reg_of (trim_of (part i e s))) ≡ true)
      go false f z = so-is (suc (digits_len rest)) (114 ∷ rest) (ap (λ (n : ℕ). drop n s) (sym z) ∙ name-at s a r) (omega arith) (plain-bare rest (omega arith) (omega arith) ends)
      go true f z =
          let g : get_or s i 0 ≡ 32 = eqb-true (get_or s i 0) 32 f in
          let h : i < length s = inside s i (λ n. absurd (omega arith)) in
          so-is (suc (suc (digits_len rest))) (32 ∷ 114 ∷ rest)
          (drop-cons s i 0 h ∙ ap (λ (x : ℕ). x ∷ drop (suc i) s) g ∙ ap (λ (n : ℕ). 32 ∷ drop n s) (sym (add-one i) ∙ sym z) ∙ ap (λ (l : List ℕ). 32 ∷ l) (name-at s a r))
          (omega arith) (plain-spaced rest (omega arith) (omega arith) ends)

-- a piece that is plainly a register to its end
pub plain-piece : (p : List ℕ) (a e : ℕ) → a ≡ cond (eqb (get_or p 0 0) 32) 1 0 → get_or p a 0 ≡ 114 → e ≡ a + 1 + digits_len (drop (a + 1) p) → length p ≤ e → 2 ≤ e - a → e - a ≤ 10 → is_reg (reg_of (trim_of p)) ≡ true
plain-piece p a e h r q l lo hi =
    let k = plain_at p 0 a e h r q lo hi (λ z. absurd (omega arith)) in
    ap (λ (x : List ℕ). is_reg (reg_of (trim_of x))) (sym (take_all (e - 0) p (omega arith))) ∙ k.1

-- one digit, and a comma or the end behind it
pub short-room : (s : List ℕ) (a : ℕ) → short_reg a s ≡ true → a + 2 ≤ length s
short-room s a v = leb-true (a + 2) (length s) (and_left (leb (a + 2) (length s)) _ v)

-- its tests, one by one
pub short-is : (s : List ℕ) (a : ℕ) (b : Bool) → a + 2 ≤ length s → eqb (get_or s a 0) 114 && is_digit (get_or s (a + 1) 0) ≡ b → short_reg a s ≡ b && (eqb (a + 2) (length s) || eqb (get_or s (a + 2) 0) 44)
short-is s a b h e =
    let behind : Bool = eqb (a + 2) (length s) || eqb (get_or s (a + 2) 0) 44 in
    ap (λ (x : Bool). x && ((eqb (get_or s a 0) 114 && is_digit (get_or s (a + 1) 0)) && behind)) (le-leb (a + 2) (length s) h) ∙ ap (λ (x : Bool). x && behind) e

pub short-at : (s : List ℕ) (i a : ℕ) → a ≡ cond (eqb (get_or s i 0) 32) (i + 1) i → short_reg a s ≡ true → (a + 2 ≡ i + up_to 44 (drop i s)) × (is_reg (reg_of (trim_of (part i (a + 2) s))) ≡ true)
short-at s i a p v = go (eqb (a + 2) (length s)) refl (and_right (eqb (get_or s a 0) 114 && is_digit (get_or s (a + 1) 0)) _ x)
  where
    h : a + 2 ≤ length s
    h = short-room s a v

    x : (eqb (get_or s a 0) 114 && is_digit (get_or s (a + 1) 0)) && (eqb (a + 2) (length s) || eqb (get_or s (a + 2) 0) 44) ≡ true
    x = and_right (leb (a + 2) (length s)) _ v

    y : eqb (get_or s a 0) 114 && is_digit (get_or s (a + 1) 0) ≡ true
    y = and_left (eqb (get_or s a 0) 114 && is_digit (get_or s (a + 1) 0)) _ x

    r : get_or s a 0 ≡ 114
    r = eqb-true (get_or s a 0) 114 (and_left (eqb (get_or s a 0) 114) _ y)

    -- no digit stands behind it
    by : digits_len (drop (a + 1 + 1) s) ≡ 0 → (a + 2 < length s → get_or s (a + 2) 0 ≡ 44) → (a + 2 ≡ i + up_to 44 (drop i s)) × (is_reg (reg_of (trim_of (part i (a + 2) s))) ≡ true)
    by m c =
        let q : a + 2 ≡ a + 1 + digits_len (drop (a + 1) s) = omega (arith, digits-on s (a + 1) (omega (arith, h)) (and_right (eqb (get_or s a 0) 114) _ y)) in
        plain_at s i a (a + 2) p r q (omega arith) (omega arith) c

    go : (t : Bool) → eqb (a + 2) (length s) ≡ t → t || eqb (get_or s (a + 2) 0) 44 ≡ true → (a + 2 ≡ i + up_to 44 (drop i s)) × (is_reg (reg_of (trim_of (part i (a + 2) s))) ≡ true)
    go true e w = let z : a + 2 ≡ length s = eqb-true (a + 2) (length s) e in by (digits-end s (a + 1 + 1) (omega arith)) (λ k. absurd (omega arith))
    go false e w =
        let c : get_or s (a + 2) 0 ≡ 44 = eqb-true (get_or s (a + 2) 0) 44 w in
        let k : a + 2 < length s = inside s (a + 2) (λ n. absurd (omega arith)) in
        let z : a + 1 + 1 ≡ a + 2 = omega arith in
        by (digits-here s (a + 1 + 1) (omega arith) (ap (λ (n : ℕ). is_digit (get_or s n 0)) z ∙ ap (λ (b : ℕ). is_digit b) c)) (λ _. c)
