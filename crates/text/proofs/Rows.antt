-- What the first byte alone leaves of the grammar: the one alternative that can begin with it, or none.
-- Assumes nothing.
use mathlib.Core.Path.{◌≡◌, refl, ap, ◌∙◌}
use mathlib.Core.Bool.{Bool, true, false, cond, ◌&&◌, false≢true}
use mathlib.Core.List.{List, [], ◌∷◌}
use Prim.Native.Nat.{ℕ, suc, ◌+◌, ◌≤◌, ◌<◌, zero-le, suc-le-suc}
use native.Mathlib.Omega.{arith}
use borrow.Author.Tests.{leb-true, leb-false}
use lib.Dec.{T, leb, leb→le}
use lib.ListN.{length, get_or, drop}
use lib.Seq.{drop-cons, get_or-drop}
use Rattle.lines.specs.Lf.{within, all}
use Rattle.text.specs.Utf8Form.{seq_len, seq_by, begins, grammar}
use Rattle.lines.proofs.Tests.{is-in, is-out, and-true, T-left, T-right}

module _ (a b c d : ℕ) where
  pub lead1 : a < 0x80 → seq_len (a ∷ b ∷ c ∷ d ∷ []) ≡ 1
  unfolding seq_len
  lead1 h = simp (is-in 0x00 0x7F a (omega arith) (omega arith))

  pub lead2 : 0xC2 ≤ a → a < 0xE0 → seq_len (a ∷ b ∷ c ∷ d ∷ []) ≡ cond (within 0x80 0xBF b) 2 0
  unfolding seq_len
  lead2 l h =
      simp (
        is-out 0x00 0x7F a (omega arith),
        is-in 0xC2 0xDF a (omega arith) (omega arith),
        is-out 0xE0 0xE0 a (omega arith),
        is-out 0xE1 0xEC a (omega arith),
        is-out 0xED 0xED a (omega arith),
        is-out 0xEE 0xEF a (omega arith),
        is-out 0xF0 0xF0 a (omega arith),
        is-out 0xF1 0xF3 a (omega arith),
        is-out 0xF4 0xF4 a (omega arith),
        and-true,
      )

  lead3-low : 0xE1 ≤ a → a < 0xED → seq_len (a ∷ b ∷ c ∷ d ∷ []) ≡ cond (within 0x80 0xBF b && within 0x80 0xBF c) 3 0
  unfolding seq_len
  lead3-low l h =
      simp (
        is-out 0x00 0x7F a (omega arith),
        is-out 0xC2 0xDF a (omega arith),
        is-out 0xE0 0xE0 a (omega arith),
        is-in 0xE1 0xEC a (omega arith) (omega arith),
        is-out 0xED 0xED a (omega arith),
        is-out 0xEE 0xEF a (omega arith),
        is-out 0xF0 0xF0 a (omega arith),
        is-out 0xF1 0xF3 a (omega arith),
        is-out 0xF4 0xF4 a (omega arith),
        and-true,
      )

  lead3-high : 0xED < a → a < 0xF0 → seq_len (a ∷ b ∷ c ∷ d ∷ []) ≡ cond (within 0x80 0xBF b && within 0x80 0xBF c) 3 0
  unfolding seq_len
  lead3-high l h =
      simp (
        is-out 0x00 0x7F a (omega arith),
        is-out 0xC2 0xDF a (omega arith),
        is-out 0xE0 0xE0 a (omega arith),
        is-out 0xE1 0xEC a (omega arith),
        is-out 0xED 0xED a (omega arith),
        is-in 0xEE 0xEF a (omega arith) (omega arith),
        is-out 0xF0 0xF0 a (omega arith),
        is-out 0xF1 0xF3 a (omega arith),
        is-out 0xF4 0xF4 a (omega arith),
        and-true,
      )

  pub lead3 : 0xE1 ≤ a → a < 0xF0 → (a ≡ 0xED → ⊥) → seq_len (a ∷ b ∷ c ∷ d ∷ []) ≡ cond (within 0x80 0xBF b && within 0x80 0xBF c) 3 0
  lead3 l h n = go (leb a 0xED) refl
    where
      go : (t : Bool) → leb a 0xED ≡ t → seq_len (a ∷ b ∷ c ∷ d ∷ []) ≡ cond (within 0x80 0xBF b && within 0x80 0xBF c) 3 0
      go true e = let k = leb-true a 0xED e in lead3-low l (omega arith)
      go false e = lead3-high (leb-false a 0xED e) h

  pub lead4 : 0xF1 ≤ a → a < 0xF4 → seq_len (a ∷ b ∷ c ∷ d ∷ []) ≡ cond (within 0x80 0xBF b && (within 0x80 0xBF c && within 0x80 0xBF d)) 4 0
  unfolding seq_len
  lead4 l h =
      simp (
        is-out 0x00 0x7F a (omega arith),
        is-out 0xC2 0xDF a (omega arith),
        is-out 0xE0 0xE0 a (omega arith),
        is-out 0xE1 0xEC a (omega arith),
        is-out 0xED 0xED a (omega arith),
        is-out 0xEE 0xEF a (omega arith),
        is-out 0xF0 0xF0 a (omega arith),
        is-in 0xF1 0xF3 a (omega arith) (omega arith),
        is-out 0xF4 0xF4 a (omega arith),
        and-true,
      )

  pub lead_low : 0x80 ≤ a → a < 0xC2 → seq_len (a ∷ b ∷ c ∷ d ∷ []) ≡ 0
  unfolding seq_len
  lead_low l h =
      simp (
        is-out 0x00 0x7F a (omega arith),
        is-out 0xC2 0xDF a (omega arith),
        is-out 0xE0 0xE0 a (omega arith),
        is-out 0xE1 0xEC a (omega arith),
        is-out 0xED 0xED a (omega arith),
        is-out 0xEE 0xEF a (omega arith),
        is-out 0xF0 0xF0 a (omega arith),
        is-out 0xF1 0xF3 a (omega arith),
        is-out 0xF4 0xF4 a (omega arith),
      )

  pub lead_high : 0xF5 ≤ a → seq_len (a ∷ b ∷ c ∷ d ∷ []) ≡ 0
  unfolding seq_len
  lead_high l =
      simp (
        is-out 0x00 0x7F a (omega arith),
        is-out 0xC2 0xDF a (omega arith),
        is-out 0xE0 0xE0 a (omega arith),
        is-out 0xE1 0xEC a (omega arith),
        is-out 0xED 0xED a (omega arith),
        is-out 0xEE 0xEF a (omega arith),
        is-out 0xF0 0xF0 a (omega arith),
        is-out 0xF1 0xF3 a (omega arith),
        is-out 0xF4 0xF4 a (omega arith),
      )

  pub lead_e0 : a ≡ 0xE0 → seq_len (a ∷ b ∷ c ∷ d ∷ []) ≡ cond (within 0xA0 0xBF b && within 0x80 0xBF c) 3 0
  unfolding seq_len
  lead_e0 e = rw e (simp and-true)

  pub lead_eD : a ≡ 0xED → seq_len (a ∷ b ∷ c ∷ d ∷ []) ≡ cond (within 0x80 0x9F b && within 0x80 0xBF c) 3 0
  unfolding seq_len
  lead_eD e = rw e (simp and-true)

  pub lead_f0 : a ≡ 0xF0 → seq_len (a ∷ b ∷ c ∷ d ∷ []) ≡ cond (within 0x90 0xBF b && (within 0x80 0xBF c && within 0x80 0xBF d)) 4 0
  unfolding seq_len
  lead_f0 e = rw e (simp and-true)

  pub lead_f4 : a ≡ 0xF4 → seq_len (a ∷ b ∷ c ∷ d ∷ []) ≡ cond (within 0x80 0x8F b && (within 0x80 0xBF c && within 0x80 0xBF d)) 4 0
  unfolding seq_len
  lead_f4 e = rw e (simp and-true)

-- a byte that is not there may be read as 0: no alternative has a 0 after its first byte
pub padded : (x : ℕ) (xs : List ℕ) → seq_len (x ∷ xs) ≡ seq_len (x ∷ get_or xs 0 0 ∷ get_or xs 1 0 ∷ get_or xs 2 0 ∷ [])
unfolding seq_len
padded x [] = refl
padded x (y ∷ []) = refl
padded x (y ∷ z ∷ []) = refl
padded x (y ∷ z ∷ w ∷ r) = refl

-- the same at a place of a list
pub padded-at : (s : List ℕ) (i : ℕ) → i < length s → seq_len (drop i s) ≡ seq_len (get_or s i 0 ∷ get_or s (i + 1) 0 ∷ get_or s (i + 2) 0 ∷ get_or s (i + 3) 0 ∷ [])
padded-at s i h =
    rw (drop-cons s i 0 h)
    (padded (get_or s i 0) (drop (suc i) s) ∙ simp (at 0, at 1, at 2))
  where
    at : (k : ℕ) → get_or (drop (suc i) s) k 0 ≡ get_or s (i + suc k) 0
    at k = get_or-drop (suc i) s k 0 ∙ ap (λ (n : ℕ). get_or s n 0) (omega arith)

cond-le : (b : Bool) (x y m : ℕ) → x ≤ m → y ≤ m → cond b x y ≤ m
cond-le true x y m p q = p
cond-le false x y m p q = q

pub rows-le : (m : ℕ) (gs : List (List (ℕ × ℕ))) (l : List ℕ) → T (all (λ g. leb (length g) m) gs) → seq_by gs l ≤ m
rows-le m [] l t = zero-le
rows-le m (g ∷ gs) l t =
    cond-le (begins g l) (length g) (seq_by gs l) m (leb→le (length g) m (T-left (leb (length g) m) _ t)) (rows-le m gs l (T-right (leb (length g) m) _ t))

-- no sequence is longer than 4
pub seq_len-le : (l : List ℕ) → seq_len l ≤ 4
unfolding seq_len
seq_len-le l = rows-le 4 grammar l tt

begins-le : (g : List (ℕ × ℕ)) (l : List ℕ) → begins g l ≡ true → length g ≤ length l
begins-le [] l e = zero-le
begins-le (r ∷ g) [] e = absurd (false≢true e)
begins-le (r ∷ g) (x ∷ xs) e = go (within r.0 r.1 x) (begins g xs) e (begins-le g xs)
  where
    go : (a b : Bool) → a && b ≡ true → (b ≡ true → length g ≤ length xs) → suc (length g) ≤ suc (length xs)
    go true b e f = suc-le-suc (f e)
    go false b e f = absurd (false≢true e)

rows_fit : (gs : List (List (ℕ × ℕ))) (l : List ℕ) → seq_by gs l ≤ length l
rows_fit [] l = zero-le
rows_fit (g ∷ gs) l = go (begins g l) refl (rows_fit gs l)
  where
    go : (b : Bool) → begins g l ≡ b → seq_by gs l ≤ length l → cond b (length g) (seq_by gs l) ≤ length l
    go true e h = begins-le g l e
    go false e h = h

-- a sequence is within the list
pub seq_len-fits : (l : List ℕ) → seq_len l ≤ length l
unfolding seq_len
seq_len-fits l = rows_fit grammar l
