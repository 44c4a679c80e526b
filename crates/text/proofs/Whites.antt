-- White space at the front and at the back of a list, from its bytes.
-- Assumes nothing.
use mathlib.Core.Path.{◌≡◌, refl, ap, ◌∙◌}
use mathlib.Core.Bool.{Bool, true, false, cond}
use mathlib.Core.List.{List, [], ◌∷◌}
use Prim.Native.Nat.{ℕ, suc, ◌+◌, ◌-◌, ◌≤◌, ◌<◌}
use native.Mathlib.Omega.{arith}
use borrow.Author.Tests.{eq-eqb, ne_eqb, leb-true, leb-false, le-leb}
use lib.Dec.{leb}
use lib.ListN.{length, get_or, drop, length-drop}
use lib.Seq.{drop-cons, get_or-drop, slice, slice-cons, slice_empty}
use Rattle.text.specs.White.{is_white}
use Rattle.text.specs.Utf8Form.{seq_len}
use Rattle.text.specs.Trim.{white_char, white_head, white_tail, point}
use Rattle.lines.proofs.Tests.{is_below, is-above}
use Rattle.text.proofs.Rows.{padded, lead1, seq_len-fits}

pub white-yes : (l : List ℕ) → seq_len l ≡ length l → white_char l ≡ is_white (point l)
unfolding white_char
white-yes l e = rw (eq-eqb (seq_len l) (length l) e)

pub white-no : (l : List ℕ) → (seq_len l ≡ length l → ⊥) → white_char l ≡ false
unfolding white_char
white-no l n = rw (ne_eqb (seq_len l) (length l) n)

-- a 0 that stands for no byte ends no white space
no2 : (x : ℕ) → white_char (x ∷ 0 ∷ []) ≡ false
unfolding seq_len
no2 x = let h : seq_len (x ∷ 0 ∷ []) ≤ 1 = seq_len-fits (x ∷ []) in white-no (x ∷ 0 ∷ []) (omega arith)

no3 : (x y : ℕ) → white_char (x ∷ y ∷ 0 ∷ []) ≡ false
unfolding seq_len
no3 x y = let h : seq_len (x ∷ y ∷ 0 ∷ []) ≤ 2 = seq_len-fits (x ∷ y ∷ []) in white-no (x ∷ y ∷ 0 ∷ []) (omega arith)

abbrev pub pick3 : Bool → Bool → Bool → ℕ
pick3 x y z = cond x 1 (cond y 2 (cond z 3 0))

same3 : (w : Bool) → pick3 w w w ≡ pick3 w false false
same3 true = refl
same3 false = refl

same2 : (v w : Bool) → pick3 v w w ≡ pick3 v w false
same2 true w = refl
same2 false true = refl
same2 false false = refl

le1 : (w : Bool) → pick3 w w w ≤ 1
le1 true = omega arith
le1 false = omega arith

le2 : (v w : Bool) → pick3 v w w ≤ 2
le2 true w = omega arith
le2 false true = omega arith
le2 false false = omega arith

le3 : (u v w : Bool) → pick3 u v w ≤ 3
le3 true v w = omega arith
le3 false true w = omega arith
le3 false false true = omega arith
le3 false false false = omega arith

-- ---- the front

head-white : (x : ℕ) (xs : List ℕ) → white_head (x ∷ xs) ≡ pick3 (white_char (x ∷ [])) (white_char (x ∷ get_or xs 0 0 ∷ [])) (white_char (x ∷ get_or xs 0 0 ∷ get_or xs 1 0 ∷ []))
unfolding white_head
head-white x [] = simp (no2 x, no3 x 0) (same3 (white_char (x ∷ [])))
head-white x (y ∷ []) = simp (no3 x y) (same2 (white_char (x ∷ [])) (white_char (x ∷ y ∷ [])))
head-white x (y ∷ z ∷ r) = refl

head-le' : (l : List ℕ) → 0 < length l → white_head l ≤ length l
unfolding white_head
head-le' [] h = omega arith
head-le' (x ∷ []) h = le1 (white_char (x ∷ []))
head-le' (x ∷ y ∷ []) h = le2 (white_char (x ∷ [])) (white_char (x ∷ y ∷ []))
head-le' (x ∷ y ∷ z ∷ r) h =
    let k = le3 (white_char (x ∷ [])) (white_char (x ∷ y ∷ [])) (white_char (x ∷ y ∷ z ∷ [])) in
    omega arith

pub head_at : (s : List ℕ) (i a b c : ℕ) → i < length s → a ≡ get_or s i 0 → b ≡ get_or s (i + 1) 0 → c ≡ get_or s (i + 2) 0 → white_head (drop i s) ≡ pick3 (white_char (a ∷ [])) (white_char (a ∷ b ∷ [])) (white_char (a ∷ b ∷ c ∷ []))
head_at s i a b c h ea eb ec =
    rw (ea, eb, ec, drop-cons s i 0 h)
    (head-white (get_or s i 0) (drop (suc i) s) ∙ simp (at 0, at 1))
  where
    at : (k : ℕ) → get_or (drop (suc i) s) k 0 ≡ get_or s (i + suc k) 0
    at k = get_or-drop (suc i) s k 0 ∙ ap (λ (n : ℕ). get_or s n 0) (omega arith)

-- ---- the back

module _ (s : List ℕ) (e : ℕ) (fits : e ≤ length s) where
  last1 : 1 ≤ e → slice (e - 1) e s ≡ get_or s (e - 1) 0 ∷ []
  last1 h =
      let q : suc (e - 1) ≡ e = omega arith in
      slice-cons (e - 1) e s 0 (omega arith) fits
      ∙ ap (λ (l : List ℕ). get_or s (e - 1) 0 ∷ l) (ap (λ (n : ℕ). slice n e s) q ∙ slice_empty e s)

  last2 : 2 ≤ e → slice (e - 2) e s ≡ get_or s (e - 2) 0 ∷ get_or s (e - 1) 0 ∷ []
  last2 h =
      let q : suc (e - 2) ≡ e - 1 = omega arith in
      slice-cons (e - 2) e s 0 (omega arith) fits
      ∙ ap (λ (l : List ℕ). get_or s (e - 2) 0 ∷ l) (ap (λ (n : ℕ). slice n e s) q ∙ last1 (omega arith))

  last3 : 3 ≤ e → slice (e - 3) e s ≡ get_or s (e - 3) 0 ∷ get_or s (e - 2) 0 ∷ get_or s (e - 1) 0 ∷ []
  last3 h =
      let q : suc (e - 3) ≡ e - 2 = omega arith in
      slice-cons (e - 3) e s 0 (omega arith) fits
      ∙ ap (λ (l : List ℕ). get_or s (e - 3) 0 ∷ l) (ap (λ (n : ℕ). slice n e s) q ∙ last2 (omega arith))

  -- before the start there is no byte, and no last two or three bytes
  short2 : e ≡ 1 → slice (e - 2) e s ≡ get_or s (e - 1) 0 ∷ []
  short2 q = let z : e - 2 ≡ e - 1 = omega arith in ap (λ (n : ℕ). slice n e s) z ∙ last1 (omega arith)

  short31 : e ≡ 1 → slice (e - 3) e s ≡ get_or s (e - 1) 0 ∷ []
  short31 q = let z : e - 3 ≡ e - 1 = omega arith in ap (λ (n : ℕ). slice n e s) z ∙ last1 (omega arith)

  short32 : e ≡ 2 → slice (e - 3) e s ≡ get_or s (e - 2) 0 ∷ get_or s (e - 1) 0 ∷ []
  short32 q = let z : e - 3 ≡ e - 2 = omega arith in ap (λ (n : ℕ). slice n e s) z ∙ last2 (omega arith)

  tail-three : 3 ≤ e → white_tail s e ≡ pick3 (white_char (get_or s (e - 1) 0 ∷ [])) (white_char (get_or s (e - 2) 0 ∷ get_or s (e - 1) 0 ∷ [])) (white_char (get_or s (e - 3) 0 ∷ get_or s (e - 2) 0 ∷ get_or s (e - 1) 0 ∷ []))
  unfolding white_tail
  tail-three h = simp (last1 (omega arith), last2 (omega arith), last3 h)

  tail-two : e ≡ 2 → white_tail s e ≡ pick3 (white_char (get_or s (e - 1) 0 ∷ [])) (white_char (get_or s (e - 2) 0 ∷ get_or s (e - 1) 0 ∷ [])) (white_char (get_or s (e - 2) 0 ∷ get_or s (e - 1) 0 ∷ []))
  unfolding white_tail
  tail-two q = simp (last1 (omega arith), last2 (omega arith), short32 q)

  tail-one : e ≡ 1 → white_tail s e ≡ pick3 (white_char (get_or s (e - 1) 0 ∷ [])) (white_char (get_or s (e - 1) 0 ∷ [])) (white_char (get_or s (e - 1) 0 ∷ []))
  unfolding white_tail
  tail-one q = simp (last1 (omega arith), short2 q, short31 q)

  pub tail-le : 0 < e → white_tail s e ≤ e
  tail-le h = go (leb 3 e) refl (leb 2 e) refl
    where
      go : (t : Bool) → leb 3 e ≡ t → (u : Bool) → leb 2 e ≡ u → white_tail s e ≤ e
      go true p u q =
          let g = leb-true 3 e p in
          let b = le3 (white_char (get_or s (e - 1) 0 ∷ [])) (white_char (get_or s (e - 2) 0 ∷ get_or s (e - 1) 0 ∷ [])) (white_char (get_or s (e - 3) 0 ∷ get_or s (e - 2) 0 ∷ get_or s (e - 1) 0 ∷ [])) in
          let w = tail-three g in
          omega arith
      go false p true q =
          let g = leb-true 2 e q in
          let g' = leb-false 3 e p in
          let b = le2 (white_char (get_or s (e - 1) 0 ∷ [])) (white_char (get_or s (e - 2) 0 ∷ get_or s (e - 1) 0 ∷ [])) in
          let w = tail-two (omega arith) in
          omega arith
      go false p false q =
          let g = leb-false 2 e q in
          let b = le1 (white_char (get_or s (e - 1) 0 ∷ [])) in
          let w = tail-one (omega arith) in
          omega arith

-- a 0 before the start begins no white space
none2 : (c : ℕ) → white_char (0 ∷ c ∷ []) ≡ false
unfolding white_char seq_len
none2 c = refl

none3 : (b c : ℕ) → white_char (0 ∷ b ∷ c ∷ []) ≡ false
unfolding white_char seq_len
none3 b c = refl

pub tail_at : (s : List ℕ) (e a b c : ℕ) → 0 < e → e ≤ length s → c ≡ cond (leb 1 e) (get_or s (e - 1) 0) 0 → b ≡ cond (leb 2 e) (get_or s (e - 2) 0) 0 → a ≡ cond (leb 3 e) (get_or s (e - 3) 0) 0 → white_tail s e ≡ pick3 (white_char (c ∷ [])) (white_char (b ∷ c ∷ [])) (white_char (a ∷ b ∷ c ∷ []))
tail_at s e a b c h fits ec eb ea = rw (ec, eb, ea, le-leb 1 e h) (go (leb 3 e) refl (leb 2 e) refl)
  where
    go : (t : Bool) → leb 3 e ≡ t → (u : Bool) → leb 2 e ≡ u → white_tail s e ≡ pick3 (white_char (get_or s (e - 1) 0 ∷ [])) (white_char (cond u (get_or s (e - 2) 0) 0 ∷ get_or s (e - 1) 0 ∷ [])) (white_char (cond t (get_or s (e - 3) 0) 0 ∷ cond u (get_or s (e - 2) 0) 0 ∷ get_or s (e - 1) 0 ∷ []))
    go true p true q = tail-three s e fits (leb-true 3 e p)
    go true p false q = let g = leb-true 3 e p in let g' = leb-false 2 e q in absurd (omega arith)
    go false p true q =
        let g = leb-true 2 e q in
        let g' = leb-false 3 e p in
        tail-two s e fits (omega arith) ∙ simp (none3 (get_or s (e - 2) 0) (get_or s (e - 1) 0)) (same2 (white_char (get_or s (e - 1) 0 ∷ [])) (white_char (get_or s (e - 2) 0 ∷ get_or s (e - 1) 0 ∷ [])))
    go false p false q =
        let g = leb-false 2 e q in
        tail-one s e fits (omega arith) ∙ simp (none2 (get_or s (e - 1) 0), none3 0 (get_or s (e - 1) 0)) (same3 (white_char (get_or s (e - 1) 0 ∷ [])))

pub head-le : (s : List ℕ) (i : ℕ) → i < length s → i + white_head (drop i s) ≤ length s
head-le s i h =
    let d = length-drop i s in
    let k = head-le' (drop i s) (omega arith) in
    omega arith

-- ---- an ASCII byte is a character by itself, and ends no longer one

pub ascii-alone : (a : ℕ) (l : List ℕ) → a < 0x80 → seq_len (a ∷ l) ≡ 1
ascii-alone a l h = padded a l ∙ lead1 a (get_or l 0 0) (get_or l 1 0) (get_or l 2 0) h

ascii-one : (a : ℕ) → a < 0x80 → white_char (a ∷ []) ≡ is_white a
ascii-one a h = white-yes (a ∷ []) (ascii-alone a [] h)

-- above the space no ASCII byte is white space
pub ascii-dark : (a : ℕ) → 32 < a → a < 0x80 → is_white a ≡ false
unfolding is_white
ascii-dark a l h =
    simp (is-above 9 13 a (omega arith), ne_eqb a 32 (omega arith), ne_eqb a 133 (omega arith), ne_eqb a 160 (omega arith), ne_eqb a 5760 (omega arith), is_below 8192 8202 a (omega arith), is_below 8232 8233 a (omega arith), ne_eqb a 8239 (omega arith), ne_eqb a 8287 (omega arith), ne_eqb a 12288 (omega arith))

pub head-ascii : (s : List ℕ) (i a : ℕ) → i < length s → a ≡ get_or s i 0 → a < 0x80 → white_head (drop i s) ≡ cond (is_white a) 1 0
head-ascii s i a h ea low =
    head_at s i a (get_or s (i + 1) 0) (get_or s (i + 2) 0) h ea refl refl
    ∙ simp (ascii-one a low, longer (get_or s (i + 1) 0 ∷ []) (omega arith), longer (get_or s (i + 1) 0 ∷ get_or s (i + 2) 0 ∷ []) (omega arith))
  where
    longer : (l : List ℕ) → 0 < length l → white_char (a ∷ l) ≡ false
    longer l p = white-no (a ∷ l) (λ q. let k = ascii-alone a l low in omega arith)

-- no sequence has an ASCII byte after its first
no-end2 : (x c : ℕ) → c < 0x80 → seq_len (x ∷ c ∷ []) ≡ seq_len (x ∷ [])
unfolding seq_len
no-end2 x c h =
    simp (is_below 0x80 0xBF c h, is_below 0xA0 0xBF c (omega arith), is_below 0x80 0x9F c h, is_below 0x90 0xBF c (omega arith), is_below 0x80 0x8F c h)

no-end3 : (x y c : ℕ) → c < 0x80 → seq_len (x ∷ y ∷ c ∷ []) ≡ seq_len (x ∷ y ∷ [])
unfolding seq_len
no-end3 x y c h = simp (is_below 0x80 0xBF c h)

pub tail-ascii : (s : List ℕ) (e c : ℕ) → 0 < e → e ≤ length s → c ≡ cond (leb 1 e) (get_or s (e - 1) 0) 0 → c < 0x80 → white_tail s e ≡ cond (is_white c) 1 0
tail-ascii s e c h fits ec low =
    tail_at s e (cond (leb 3 e) (get_or s (e - 3) 0) 0) (cond (leb 2 e) (get_or s (e - 2) 0) 0) c h fits ec refl refl
    ∙ simp (ascii-one c low, two (cond (leb 2 e) (get_or s (e - 2) 0) 0), three (cond (leb 3 e) (get_or s (e - 3) 0) 0) (cond (leb 2 e) (get_or s (e - 2) 0) 0))
  where
    two : (x : ℕ) → white_char (x ∷ c ∷ []) ≡ false
    two x = white-no (x ∷ c ∷ []) (λ q. let k = seq_len-fits (x ∷ []) in let j = no-end2 x c low in omega arith)

    three : (x y : ℕ) → white_char (x ∷ y ∷ c ∷ []) ≡ false
    three x y = white-no (x ∷ y ∷ c ∷ []) (λ q. let k = seq_len-fits (x ∷ y ∷ []) in let j = no-end3 x y c low in omega arith)
