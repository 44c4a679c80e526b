-- The scan of a text, a sequence at a time.
-- Assumes nothing.
use mathlib.Core.Path.{◌≡◌, refl, sym, ap, ◌∙◌}
use mathlib.Core.Bool.{true}
use mathlib.Core.List.{List, [], ◌∷◌}
use Prim.Native.Nat.{ℕ, zero, suc, ◌+◌, ◌<◌}
use native.Mathlib.Nat.{add-zero}
use native.Mathlib.Omega.{arith}
use borrow.Author.Tests.{lt-ltb, ltb-true}
use lib.ListN.{length, get_or, drop}
use lib.Seq.{drop-cons, drop-drop}
use Rattle.std.specs.Str.{IsAscii}
use Rattle.lines.specs.Lf.{all}
use Rattle.lines.proofs.Tests.{and_left, and_right, is-in}
use Rattle.text.specs.Utf8Form.{seq_len, scan}
use Rattle.text.specs.Inner.Utf8Form.{is_ascii}
use Rattle.std.specs.declared.result.Result.TheVariants.{Ok, Err}

pub scan-skip : (k i : ℕ) (l : List ℕ) → scan k i l ≡ scan 0 (i + k) (drop k l)
unfolding scan
scan-skip zero i l = ap (λ (n : ℕ). scan 0 n l) (sym (add-zero i))
scan-skip (suc k) i [] = refl
scan-skip (suc k) i (x ∷ xs) = scan-skip k (suc i) xs ∙ ap (λ (n : ℕ). scan 0 n (drop k xs)) (omega arith)

pub first-bad : (i x : ℕ) (xs : List ℕ) → seq_len (x ∷ xs) ≡ 0 → scan 0 i (x ∷ xs) ≡ Err i
unfolding scan
first-bad i x xs e = rw e

pub first_on : (i k x : ℕ) (xs : List ℕ) → seq_len (x ∷ xs) ≡ suc k → scan 0 i (x ∷ xs) ≡ scan 0 (i + suc k) (drop k xs)
unfolding scan
first_on i k x xs e = rw e (scan-skip k (suc i) xs ∙ ap (λ (n : ℕ). scan 0 n (drop k xs)) (omega arith))

module _ (t : List ℕ) (i : ℕ) (h : i < length t) where
  pub scan-bad : seq_len (drop i t) ≡ 0 → scan 0 i (drop i t) ≡ Err i
  scan-bad e = rw (drop-cons t i 0 h) (first-bad i (get_or t i 0) (drop (suc i) t) (rw (drop-cons t i 0 h) at e))

  pub scan-on : (n : ℕ) → seq_len (drop i t) ≡ n → (n ≡ 0 → ⊥) → scan 0 i (drop i t) ≡ scan 0 (i + n) (drop (i + n) t)
  scan-on zero e z = absurd (z refl)
  scan-on (suc k) e z =
      let q : suc i + k ≡ i + suc k = omega arith in
      rw (drop-cons t i 0 h)
      (first_on i k (get_or t i 0) (drop (suc i) t) (rw (drop-cons t i 0 h) at e)
      ∙ ap (scan 0 (i + suc k)) (drop-drop k (suc i) t ∙ ap (λ (n : ℕ). drop n t) q))

-- a byte of ASCII is a sequence by itself
ascii-seq : (x : ℕ) (xs : List ℕ) → is_ascii x ≡ true → seq_len (x ∷ xs) ≡ 1
unfolding seq_len
ascii-seq x xs h = rw (is-in 0x00 0x7F x (omega arith) (let l = ltb-true x 0x80 h in omega arith))

-- a text of ASCII is UTF-8
pub scan-ascii : (i : ℕ) (l : List ℕ) → all is_ascii l ≡ true → scan 0 i l ≡ Ok tt
unfolding scan
scan-ascii i [] h = refl
scan-ascii i (x ∷ xs) h = rw (ascii-seq x xs (and_left (is_ascii x) (all is_ascii xs) h)) (scan-ascii (suc i) xs (and_right (is_ascii x) (all is_ascii xs) h))

pub all-ascii : (l : List ℕ) → IsAscii l → all is_ascii l ≡ true
all-ascii [] h = refl
all-ascii (x ∷ xs) h = rw (lt-ltb x 0x80 (h 0)) (all-ascii xs (λ i. h (suc i)))
