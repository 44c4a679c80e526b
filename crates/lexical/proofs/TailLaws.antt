-- The last character of a text that grows byte by byte, from its digest. Assumes nothing.
use Prim.Native.Nat.{ℕ, suc, ◌-◌, ◌≤◌, ◌<◌}
use mathlib.Core.Path.{◌≡◌, refl, sym, ap, ◌∙◌}
use mathlib.Core.Bool.{Bool, true, false, cond, ◌&&◌}
use mathlib.Core.List.{List, [], ◌∷◌, ◌++◌, append-nil, append_assoc}
use native.Mathlib.Omega.{arith}
use borrow.Author.Tests.{ne_eqb, eqb-false, leb-true, leb-false, le-leb, lt-leb}
use lib.Dec.{leb, eqb}
use lib.ListN.{length, drop, get_or, length-append, take-append-drop, get_or-append}
use lib.Seq.{take-append-le, take_all, length-take-le, get_or-append_seam, append_snoc}
use Rattle.lines.specs.Lf.{within}
use Rattle.lines.proofs.Tests.{is-in, is_below, is-above, and-true, and-false}
use Rattle.text.specs.White.{is_white}
use Rattle.text.specs.Utf8Form.{seq_len}
use Rattle.text.specs.Trim.{white_char, white_tail, end_white, to_of}
use Rattle.text.proofs.Whites.{tail_at, pick3, white-yes, white-no}
use Rattle.text.proofs.Trims.{back-stop, back_on, to_of-le}
use Rattle.text.proofs.CharsEnd.{end-append}
use Rattle.lexical.specs.declared.Tail.{Tail}
use Rattle.lexical.specs.Lex.{last_of}
use Rattle.lexical.specs.Inner.Lex.{back_byte, front, tail_of, last_after, pushed, grown}

-- ---- the last character

-- that of a text whose white space at the end begins at n
abbrev last_at : List ℕ → ℕ → ℕ
last_at l n = cond (eqb n 0) 256 (get_or l (n - 1) 0)

last-append : (m c : List ℕ) → last_at (m ++ c) (end_white (m ++ c) 0 (length m)) ≡ last_of m
unfolding last_of to_of
last-append m c = rw (end-append m c 0 (length m) (omega arith)) (go (eqb (to_of m) 0) refl)
  where
    go : (t : Bool) → eqb (to_of m) 0 ≡ t → cond t 256 (get_or (m ++ c) (to_of m - 1) 0) ≡ cond t 256 (get_or m (to_of m - 1) 0)
    go true e = refl
    go false e =
        let n = eqb-false (to_of m) 0 e in
        let k = to_of-le m in
        get_or-append m c 0 (to_of m - 1) (omega arith)

-- ---- a byte more

module _ (out : List ℕ) (b : ℕ) where
  size : length (out ++ b ∷ []) ≡ suc (length out)
  size = length-append out (b ∷ []) ∙ omega arith

  pred : suc (length out) - 1 ≡ length out
  pred = omega arith

  pub back-here : b ≡ back_byte 1 (out ++ b ∷ [])
  back-here = rw (size, le-leb 1 (suc (length out)) (omega arith), pred) (sym (get_or-append_seam out b [] 0))

  pub back_more : (k : ℕ) → 0 < k → back_byte k out ≡ back_byte (suc k) (out ++ b ∷ [])
  back_more k h = rw size (go (leb k (length out)) refl)
    where
      go : (t : Bool) → leb k (length out) ≡ t → cond t (get_or out (length out - k) 0) 0 ≡ cond (leb (suc k) (suc (length out))) (get_or (out ++ b ∷ []) (suc (length out) - suc k) 0) 0
      go true e =
          let g = leb-true k (length out) e in
          let q : suc (length out) - suc k ≡ length out - k = omega arith in
          rw (le-leb (suc k) (suc (length out)) (omega arith), q) (sym (get_or-append out (b ∷ []) 0 (length out - k) (omega arith)))
      go false e = let g = leb-false k (length out) e in rw (lt-leb (suc k) (suc (length out)) (omega arith))

  pub front-more : (k : ℕ) → front (suc k) (out ++ b ∷ []) ≡ front k out
  front-more k =
      let q : suc (length out) - suc k ≡ length out - k = omega arith in
      rw (size, q) (take-append-le (length out - k) out (b ∷ []) (omega arith))

  pub front-whole : front 0 out ≡ out
  front-whole = take_all (length out - 0) out (omega arith)

  -- the last character of what stands before the last k bytes, found in the longer text
  last-front : (k e : ℕ) → e ≡ length out - k → last_at (out ++ b ∷ []) (end_white (out ++ b ∷ []) 0 e) ≡ last_of (front k out)
  last-front k e q =
      let m : List ℕ = front k out in
      let c : List ℕ = drop (length out - k) out ++ b ∷ [] in
      let j : m ++ c ≡ out ++ b ∷ [] = sym (append_assoc m (drop (length out - k) out) (b ∷ [])) ∙ ap (λ (l : List ℕ). l ++ b ∷ []) (take-append-drop (length out - k) out) in
      let n : length m ≡ e = length-take-le (length out - k) out (omega arith) ∙ sym q in
      rw (← j, ← n) (last-append m c)

  last-pushed : last_of (out ++ b ∷ []) ≡ last_after (tail_of out) b
  unfolding last_of to_of tail_of
  last-pushed =
      rw size
      (go (white_char (b ∷ [])) (white_char (back_byte 1 out ∷ b ∷ [])) (white_char (back_byte 2 out ∷ back_byte 1 out ∷ b ∷ []))
      (tail_at s (suc (length out)) (back_byte 2 out) (back_byte 1 out) b (omega arith) (omega (arith, size))
      (back-here ∙ at 1) (back_more 1 (omega arith) ∙ at 2) (back_more 2 (omega arith) ∙ at 3)))
    where
      s : List ℕ
      s = out ++ b ∷ []

      at : (k : ℕ) → back_byte k s ≡ cond (leb k (suc (length out))) (get_or s (suc (length out) - k) 0) 0
      at k = rw size

      go : (u v w : Bool) → white_tail s (suc (length out)) ≡ pick3 u v w → last_at s (end_white s 0 (suc (length out))) ≡ cond u (last_of out) (cond v (last_of (front 1 out)) (cond w (last_of (front 2 out)) b))
      go true v w e = rw (back_on s (suc (length out)) 1 (omega arith) e (omega arith), pred) (last-append out (b ∷ []))
      go false true w e = rw (back_on s (suc (length out)) 2 (omega arith) e (omega arith)) (last-front 1 (suc (length out) - 2) (omega arith))
      go false false true e = rw (back_on s (suc (length out)) 3 (omega arith) e (omega arith)) (last-front 2 (suc (length out) - 3) (omega arith))
      go false false false e = rw (back-stop s (suc (length out)) (omega arith) e, ne_eqb (suc (length out)) 0 (omega arith), pred) (get_or-append_seam out b [] 0)

  -- the digest of a text with b after it
  pub push-tail : tail_of (out ++ b ∷ []) ≡ pushed (tail_of out) b
  unfolding tail_of pushed
  push-tail = rw (← back-here, ← back_more 1 (omega arith), last-pushed, front-more 1, front-more 0, front-whole)

-- and with further bytes
pub grown-tail : (bs out : List ℕ) → grown (tail_of out) bs ≡ tail_of (out ++ bs)
unfolding grown
grown-tail [] out = ap tail_of (sym (append-nil out))
grown-tail (b ∷ bs) out = ap (λ (t : Tail). grown t bs) (sym (push-tail out b)) ∙ grown-tail bs (out ++ b ∷ []) ∙ ap tail_of (append_snoc out b bs)

-- ---- which characters a byte can end: below 128 none but its own, from 128 on none of one byte

not-two : (t : Bool) → ◌≡◌ {A = ℕ} (cond t 1 0) 2 → ⊥
not-two true e = omega arith
not-two false e = omega arith

not_three : (t u : Bool) → ◌≡◌ {A = ℕ} (cond t 1 (cond u 2 0)) 3 → ⊥
not_three true u e = omega arith
not_three false true e = omega arith
not_three false false e = omega arith

module _ (b : ℕ) (h : b < 128) where
  low1 : white_char (b ∷ []) ≡ is_white b
  unfolding seq_len
  low1 = white-yes (b ∷ []) (simp (is-in 0x00 0x7F b (omega arith) (omega arith)))

  low2 : (x : ℕ) → white_char (x ∷ b ∷ []) ≡ false
  unfolding seq_len
  low2 x =
      white-no (x ∷ b ∷ [])
      (simp (is_below 0x80 0xBF b h, is_below 0xA0 0xBF b (omega arith), is_below 0x80 0x9F b h, is_below 0x90 0xBF b (omega arith), is_below 0x80 0x8F b h, and-false, and-true)
      (not-two (within 0 127 x)))

  low3 : (x y : ℕ) → white_char (x ∷ y ∷ b ∷ []) ≡ false
  unfolding seq_len
  low3 x y = white-no (x ∷ y ∷ b ∷ []) (simp (is_below 0x80 0xBF b h, and-false, and-true) (not_three (within 0 127 x) (within 194 223 x && within 128 191 y)))

  pub after-low : (t : Tail) → last_after t b ≡ cond (is_white b) t.last b
  after-low t = rw (low1, low2 t.byte, low3 t.byte2 t.byte)

high1 : (b : ℕ) → 128 ≤ b → white_char (b ∷ []) ≡ false
unfolding seq_len
high1 b h = white-no (b ∷ []) (simp (is-above 0x00 0x7F b h, and-false) (omega arith))

pub after-high : (t : Tail) (b : ℕ) → 128 ≤ b → last_after t b ≡ cond (white_char (t.byte ∷ b ∷ [])) t.last2 (cond (white_char (t.byte2 ∷ t.byte ∷ b ∷ [])) t.last3 b)
after-high t b h = rw (high1 b h)
