-- Of a text that is a row of well-formed sequences, trimming takes away the white characters at its ends, and no other bytes.
-- Assumes nothing.
use mathlib.Core.Path.{◌≡◌, refl, sym, ap, ◌∙◌}
use mathlib.Core.Bool.{Bool, true, false, cond, ◌&&◌, ◌||◌, false≢true}
use mathlib.Core.List.{List, [], ◌∷◌, ◌++◌}
use Prim.Native.Nat.{ℕ, suc, ◌+◌, ◌≤◌, ◌<◌}
use native.Mathlib.Omega.{arith}
use borrow.Author.Tests.{leb-true, leb-false, ltb-true, ltb-false, ne_eqb}
use lib.Dec.{T, leb, ltb, leb→le, ltb→lt}
use lib.ListN.{length, take, drop, length-append}
use lib.Seq.{drop-append_seam, drop-append-add}
use Rattle.lines.specs.Lf.{within, all}
use Rattle.text.specs.White.{is_white}
use Rattle.text.specs.Utf8Form.{seq_len, seq_by, begins, grammar}
use Rattle.text.specs.Trim.{white_char, white_head, point, lead, or_on, from_of, trim_start}
use Rattle.lines.proofs.Tests.{is-in, is-above, is_below, T-left, T-right, and-false}
use Rattle.text.proofs.Rows.{seq_len-le, rows-le, lead_f0, lead_high}
use Rattle.text.proofs.Whites.{white-no}
use Rattle.text.proofs.Trims.{lead-skip}

-- ---- the grammar's first bytes are in order and are no tails; the other bytes are tails

abbrev pub tail_ok : ℕ × ℕ → Bool
tail_ok r = leb 0x80 r.0 && leb r.1 0xBF

abbrev pub row_ok : ℕ → List (ℕ × ℕ) → Bool
row_ok b [] = false
row_ok b (r ∷ g) = leb b r.0 && (leb r.0 r.1 && ((ltb r.1 0x80 || ltb 0xBF r.0) && all tail_ok g))

abbrev pub next : List (ℕ × ℕ) → ℕ
next [] = 0
next (r ∷ g) = suc r.1

abbrev pub sorted : ℕ → List (List (ℕ × ℕ)) → Bool
sorted b [] = true
sorted b (g ∷ gs) = row_ok b g && sorted (next g) gs

-- what a first byte leaves to ask of the rest
pub data Led (gs : List (List (ℕ × ℕ))) (a : ℕ) : Type 0 where
  bad : ((ys : List ℕ) → seq_by gs (a ∷ ys) ≡ 0) → Led gs a
  good : (g : List (ℕ × ℕ)) → T (all tail_ok g) → (0x80 ≤ a → a ≤ 0xBF → ⊥) → ((ys : List ℕ) → seq_by gs (a ∷ ys) ≡ cond (begins g ys) (suc (length g)) 0) → Led gs a

out : (b a : ℕ) (gs : List (List (ℕ × ℕ))) (ys : List ℕ) → T (sorted b gs) → a < b → seq_by gs (a ∷ ys) ≡ 0
out b a [] ys t h = refl
out b a ([] ∷ gs) ys t h = absurd (T-left false (sorted 0 gs) t)
out b a ((r ∷ g) ∷ gs) ys t h =
    let row = T-left (row_ok b (r ∷ g)) (sorted (suc r.1) gs) t in
    let p = leb→le b r.0 (T-left (leb b r.0) _ row) in
    let q = leb→le r.0 r.1 (T-left (leb r.0 r.1) _ (T-right (leb b r.0) _ row)) in
    rw (is_below r.0 r.1 a (omega arith))
    (out (suc r.1) a gs ys (T-right (row_ok b (r ∷ g)) (sorted (suc r.1) gs) t) (omega arith))

apart : (r : ℕ × ℕ) (a : ℕ) → T (ltb r.1 0x80 || ltb 0xBF r.0) → r.0 ≤ a → a ≤ r.1 → 0x80 ≤ a → a ≤ 0xBF → ⊥
apart r a t l h p q = go (ltb r.1 0x80) refl t
  where
    go : (b : Bool) → ltb r.1 0x80 ≡ b → T (b || ltb 0xBF r.0) → ⊥
    go true e u = let k = ltb-true r.1 0x80 e in omega arith
    go false e u = let k = ltb→lt 0xBF r.0 u in omega arith

pub led : (b a : ℕ) (gs : List (List (ℕ × ℕ))) → T (sorted b gs) → Led gs a
led b a [] t = bad (λ ys. refl)
led b a ([] ∷ gs) t = absurd (T-left false (sorted 0 gs) t)
led b a ((r ∷ g) ∷ gs) t = go (leb r.0 a) refl (leb a r.1) refl (led (suc r.1) a gs later)
  where
    row : T (row_ok b (r ∷ g))
    row = T-left (row_ok b (r ∷ g)) (sorted (suc r.1) gs) t

    later : T (sorted (suc r.1) gs)
    later = T-right (row_ok b (r ∷ g)) (sorted (suc r.1) gs) t

    after : T ((ltb r.1 0x80 || ltb 0xBF r.0) && all tail_ok g)
    after = T-right (leb r.0 r.1) _ (T-right (leb b r.0) _ row)

    on : Led gs a → within r.0 r.1 a ≡ false → Led ((r ∷ g) ∷ gs) a
    on (bad f) e = bad (λ ys. rw e (f ys))
    on (good g' u h f) e = good g' u h (λ ys. rw e (f ys))

    go : (x : Bool) → leb r.0 a ≡ x → (y : Bool) → leb a r.1 ≡ y → Led gs a → Led ((r ∷ g) ∷ gs) a
    go true p true q rest =
        let l = leb-true r.0 a p in
        let h = leb-true a r.1 q in
        good g (T-right (ltb r.1 0x80 || ltb 0xBF r.0) _ after) (apart r a (T-left (ltb r.1 0x80 || ltb 0xBF r.0) _ after) l h)
        (λ ys. rw (is-in r.0 r.1 a l h, out (suc r.1) a gs ys later (omega arith)))
    go true p false q rest = on rest (is-above r.0 r.1 a (leb-false a r.1 q))
    go false p y q rest = on rest (is_below r.0 r.1 a (leb-false r.0 a p))

-- ---- one well-formed sequence

pub record Formed (x : ℕ) (ys : List ℕ) : Type 0 where
  pub g : List (ℕ × ℕ)
  pub tails : T (all tail_ok g)
  pub head : 0x80 ≤ x → x ≤ 0xBF → ⊥
  pub law : (zs : List ℕ) → seq_len (x ∷ zs) ≡ cond (begins g zs) (suc (length g)) 0
  pub fits : begins g ys ≡ true
  pub size : length g ≡ length ys

pub formed : (x : ℕ) (ys : List ℕ) → seq_len (x ∷ ys) ≡ suc (length ys) → Formed x ys
unfolding seq_len
formed x ys e = go (led 0 x grammar tt)
  where
    go : Led grammar x → Formed x ys
    go (bad f) = let z = sym (f ys) ∙ e in absurd (omega arith)
    go (good g t h f) = at (begins g ys) refl
      where
        at : (b : Bool) → begins g ys ≡ b → Formed x ys
        at true q =
            let z : suc (length g) ≡ suc (length ys) = sym (f ys ∙ ap (λ (b : Bool). cond b (suc (length g)) 0) q) ∙ e in
            record { g = g; tails = t; head = h; law = f; fits = q; size = omega arith }
        at false q =
            let z : 0 ≡ suc (length ys) = sym (f ys ∙ ap (λ (b : Bool). cond b (suc (length g)) 0) q) ∙ e in
            absurd (omega arith)

begins-append : (g : List (ℕ × ℕ)) (ys r : List ℕ) → begins g ys ≡ true → begins g (ys ++ r) ≡ true
begins-append [] ys r e = refl
begins-append (p ∷ g) [] r e = absurd (false≢true e)
begins-append (p ∷ g) (y ∷ ys) r e = go (within p.0 p.1 y) e (begins-append g ys r)
  where
    go : (b : Bool) → b && begins g ys ≡ true → (begins g ys ≡ true → begins g (ys ++ r) ≡ true) → b && begins g (ys ++ r) ≡ true
    go true e f = f e
    go false e f = absurd (false≢true e)

module _ (x : ℕ) (ys : List ℕ) (F : Formed x ys) where
  -- the sequence is there, whatever follows
  pub formed-append : (r : List ℕ) → seq_len (x ∷ (ys ++ r)) ≡ suc (length ys)
  formed-append r = F.law (ys ++ r) ∙ simp (begins-append F.g ys r F.fits, F.size)

  -- no other number of bytes with this first byte is a character
  other : (zs : List ℕ) → (length zs ≡ length ys → ⊥) → white_char (x ∷ zs) ≡ false
  other zs n = white-no (x ∷ zs) (λ e. go (begins F.g zs) (sym (F.law zs) ∙ e))
    where
      go : (b : Bool) → cond b (suc (length F.g)) 0 ≡ suc (length zs) → ⊥
      go true e = let s = F.size in n (omega arith)
      go false e = omega arith

-- no white space has four bytes
high : (p : ℕ) → 12288 < p → is_white p ≡ false
unfolding is_white
high p h =
    simp (
      is-above 9 13 p (omega arith),
      is-above 8192 8202 p (omega arith),
      is-above 8232 8233 p (omega arith),
      ne_eqb p 32 (omega arith),
      ne_eqb p 133 (omega arith),
      ne_eqb p 160 (omega arith),
      ne_eqb p 5760 (omega arith),
      ne_eqb p 8239 (omega arith),
      ne_eqb p 8287 (omega arith),
      ne_eqb p 12288 (omega arith),
    )

module _ (a b c d : ℕ) where
  below-F0 : a < 0xF0 → seq_len (a ∷ b ∷ c ∷ d ∷ []) ≤ 3
  unfolding seq_len
  below-F0 h =
      simp (is_below 0xF0 0xF0 a (omega arith), is_below 0xF1 0xF3 a (omega arith), is_below 0xF4 0xF4 a (omega arith))
      (rows-le 3 (take 6 grammar) (a ∷ b ∷ c ∷ d ∷ []) tt)

  big : 12288 < point (a ∷ b ∷ c ∷ d ∷ []) → white_char (a ∷ b ∷ c ∷ d ∷ []) ≡ false
  unfolding white_char
  big h = simp (high (point (a ∷ b ∷ c ∷ d ∷ [])) h, and-false)

  pub four : white_char (a ∷ b ∷ c ∷ d ∷ []) ≡ false
  four = go (ltb a 0xF0) refl (leb a 0xF0) refl (leb a 0xF4) refl (ltb b 0x90) refl
    where
      no : (seq_len (a ∷ b ∷ c ∷ d ∷ []) ≡ 4 → ⊥) → white_char (a ∷ b ∷ c ∷ d ∷ []) ≡ false
      no = white-no (a ∷ b ∷ c ∷ d ∷ [])

      go : (p : Bool) → ltb a 0xF0 ≡ p → (q : Bool) → leb a 0xF0 ≡ q → (r : Bool) → leb a 0xF4 ≡ r → (s : Bool) → ltb b 0x90 ≡ s → white_char (a ∷ b ∷ c ∷ d ∷ []) ≡ false
      go true p q eq r er s es = let k = below-F0 (ltb-true a 0xF0 p) in no (omega arith)
      go false p true eq r er true es =
          let l = ltb-false a 0xF0 p in
          let h = leb-true a 0xF0 eq in
          let z : seq_len (a ∷ b ∷ c ∷ d ∷ []) ≡ 0 = lead_f0 a b c d (omega arith) ∙ simp (is_below 0x90 0xBF b (ltb-true b 0x90 es)) in
          no (omega arith)
      go false p true eq r er false es =
          at (leb b 0xBF) refl
        where
          at : (u : Bool) → leb b 0xBF ≡ u → white_char (a ∷ b ∷ c ∷ d ∷ []) ≡ false
          at true eu =
              let l = ltb-false a 0xF0 p in
              let h = leb-true a 0xF0 eq in
              let m = ltb-false b 0x90 es in
              let k = leb-true b 0xBF eu in
              big (omega arith)
          at false eu =
              let l = ltb-false a 0xF0 p in
              let h = leb-true a 0xF0 eq in
              let z : seq_len (a ∷ b ∷ c ∷ d ∷ []) ≡ 0 = lead_f0 a b c d (omega arith) ∙ simp (is-above 0x90 0xBF b (leb-false b 0xBF eu)) in
              no (omega arith)
      go false p false eq true er s es =
          let l = leb-false a 0xF0 eq in
          let h = leb-true a 0xF4 er in
          big (omega arith)
      go false p false eq false er s es =
          let z : seq_len (a ∷ b ∷ c ∷ d ∷ []) ≡ 0 = lead_high a b c d (leb-false a 0xF4 er) in
          no (omega arith)

-- ---- the front of a text of characters

pick-1 : (w u v : Bool) → (w ≡ false → u ≡ false) → (w ≡ false → v ≡ false) → ◌≡◌ {A = ℕ} (cond w 1 (cond u 2 (cond v 3 0))) (cond w 1 0)
pick-1 true u v f g = refl
pick-1 false u v f g = rw (f refl, g refl)

pick-2 : (w v : Bool) → (w ≡ false → v ≡ false) → ◌≡◌ {A = ℕ} (cond w 2 (cond v 3 0)) (cond w 2 0)
pick-2 true v g = refl
pick-2 false v g = rw (g refl)

front : (x : ℕ) (ys r : List ℕ) → Formed x ys → white_head (x ∷ (ys ++ r)) ≡ cond (white_char (x ∷ ys)) (suc (length ys)) 0
unfolding white_head
front x [] [] F = pick-1 (white_char (x ∷ [])) (white_char (x ∷ [])) (white_char (x ∷ [])) (λ e. e) (λ e. e)
front x [] (a ∷ []) F =
    pick-1 (white_char (x ∷ [])) (white_char (x ∷ a ∷ [])) (white_char (x ∷ a ∷ []))
    (λ e. other x [] F (a ∷ []) (omega arith)) (λ e. other x [] F (a ∷ []) (omega arith))
front x [] (a ∷ b ∷ r) F =
    pick-1 (white_char (x ∷ [])) (white_char (x ∷ a ∷ [])) (white_char (x ∷ a ∷ b ∷ []))
    (λ e. other x [] F (a ∷ []) (omega arith)) (λ e. other x [] F (a ∷ b ∷ []) (omega arith))
front x (y ∷ []) [] F =
    rw (other x (y ∷ []) F [] (omega arith)) (pick-2 (white_char (x ∷ y ∷ [])) (white_char (x ∷ y ∷ [])) (λ e. e))
front x (y ∷ []) (a ∷ r) F =
    rw (other x (y ∷ []) F [] (omega arith))
    (pick-2 (white_char (x ∷ y ∷ [])) (white_char (x ∷ y ∷ a ∷ [])) (λ e. other x (y ∷ []) F (y ∷ a ∷ []) (omega arith)))
front x (y ∷ z ∷ []) r F = rw (other x (y ∷ z ∷ []) F [] (omega arith), other x (y ∷ z ∷ []) F (y ∷ []) (omega arith))
front x (y ∷ z ∷ u ∷ []) r F =
    rw (
      other x (y ∷ z ∷ u ∷ []) F [] (omega arith),
      other x (y ∷ z ∷ u ∷ []) F (y ∷ []) (omega arith),
      other x (y ∷ z ∷ u ∷ []) F (y ∷ z ∷ []) (omega arith),
      four x y z u,
    )
front x (y ∷ z ∷ u ∷ v ∷ ys) r F =
    let k = seq_len-le (x ∷ y ∷ z ∷ u ∷ v ∷ ys) in
    let e : seq_len (x ∷ y ∷ z ∷ u ∷ v ∷ ys) ≡ suc (length (y ∷ z ∷ u ∷ v ∷ ys)) = F.law (y ∷ z ∷ u ∷ v ∷ ys) ∙ simp (F.fits, F.size) in
    absurd (omega arith)

-- a text as its characters, each a well-formed sequence
pub data Chars : List (List ℕ) → Type 0 where
  none : Chars []
  char : {c : List ℕ} {cs : List (List ℕ)} → seq_len c ≡ length c → 0 < length c → Chars cs → Chars (c ∷ cs)

abbrev pub text : List (List ℕ) → List ℕ
text [] = []
text (c ∷ cs) = c ++ text cs

-- without the white characters at the front
abbrev pub stripped : List (List ℕ) → List (List ℕ)
stripped [] = []
stripped (c ∷ cs) = cond (white_char c) (stripped cs) (c ∷ cs)

from-char : (c t : List ℕ) → seq_len c ≡ length c → 0 < length c → from_of (c ++ t) ≡ cond (white_char c) (length c + from_of t) 0
unfolding from_of lead
from-char [] t e h = absurd (omega arith)
from-char (x ∷ ys) t e h = rw (front x ys t (formed x ys e)) (go (white_char (x ∷ ys)))
  where
    go : (b : Bool) → or_on (cond b (suc (length ys)) 0) 0 (λ k. suc (lead k (ys ++ t))) ≡ cond b (suc (length ys) + lead 0 t) 0
    go true =
        let l = length-append ys t in
        let k = lead-skip (length ys) (ys ++ t) (omega arith) in
        let d = ap (lead 0) (drop-append_seam ys t) in
        omega arith
    go false = refl

-- trimming at the front takes away the white characters there
pub trim-chars : {cs : List (List ℕ)} → Chars cs → trim_start (text cs) ≡ text (stripped cs)
unfolding from_of lead
trim-chars none = refl
trim-chars (char {c} {cs} e h r) = rw (from-char c (text cs) e h) (go (white_char c) (trim-chars r))
  where
    go : (b : Bool) → trim_start (text cs) ≡ text (stripped cs) → drop (cond b (length c + from_of (text cs)) 0) (c ++ text cs) ≡ text (cond b (stripped cs) (c ∷ cs))
    go true i = drop-append-add c (text cs) (from_of (text cs)) ∙ i
    go false i = refl
