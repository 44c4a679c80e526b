-- Whether a quote is closed, place by place. Assumes nothing.
use Prim.Native.Nat.{ℕ, ◌+◌, ◌≤◌, ◌<◌, min}
use mathlib.Core.Path.{◌≡◌, sym, ap, ◌∙◌}
use mathlib.Core.Bool.{true, false}
use mathlib.Core.List.{List, [], ◌∷◌}
use borrow.Author.Tests.{eq-eqb, ne_eqb}
use lib.ListN.{length, drop, get_or, drop_of_length-le}
use lib.Seq.{drop-drop}
use Rattle.lines.proofs.LfLaws.{drop_min}
use Rattle.lexical.specs.Lex.{quote_shut}
use Rattle.lexical.proofs.EndLaws.{cons-at}

module _ (x : ℕ) (l : List ℕ) (q : ℕ) where
  shut-escaped : x ≡ 92 → quote_shut (x ∷ l) q ≡ quote_shut (drop 1 l) q
  unfolding quote_shut
  shut-escaped e = go l
    where
      go : (m : List ℕ) → quote_shut (x ∷ m) q ≡ quote_shut (drop 1 m) q
      go [] = rw e
      go (y ∷ m) = rw e

  shut-here : (x ≡ 92 → ⊥) → x ≡ q → quote_shut (x ∷ l) q ≡ true
  unfolding quote_shut
  shut-here n e = go l
    where
      go : (m : List ℕ) → quote_shut (x ∷ m) q ≡ true
      go [] = rw (ne_eqb x 92 n, eq-eqb x q e)
      go (y ∷ m) = rw (ne_eqb x 92 n, eq-eqb x q e)

  shut-on : (x ≡ 92 → ⊥) → (x ≡ q → ⊥) → quote_shut (x ∷ l) q ≡ quote_shut l q
  unfolding quote_shut
  shut-on n m = go l
    where
      go : (r : List ℕ) → quote_shut (x ∷ r) q ≡ quote_shut r q
      go [] = rw (ne_eqb x 92 n, ne_eqb x q m)
      go (y ∷ r) = rw (ne_eqb x 92 n, ne_eqb x q m)

module _ (q : ℕ) (s : List ℕ) (j : ℕ) where
  pub shut-after : (r : ℕ) → r ≡ min (j + 1 + 1) (length s) → j < length s → get_or s j 0 ≡ 92 → quote_shut (drop j s) q ≡ quote_shut (drop r s) q
  shut-after r e h x =
      let z : drop 1 (drop (j + 1) s) ≡ drop r s = drop-drop 1 (j + 1) s ∙ sym (ap (λ (n : ℕ). drop n s) e ∙ drop_min (j + 1 + 1) s) in
      ap (λ (l : List ℕ). quote_shut l q) (cons-at s j h) ∙ shut-escaped (get_or s j 0) (drop (j + 1) s) q x ∙ ap (λ (l : List ℕ). quote_shut l q) z

  pub shut-close : j < length s → (get_or s j 0 ≡ 92 → ⊥) → get_or s j 0 ≡ q → quote_shut (drop j s) q ≡ true
  shut-close h n e = ap (λ (l : List ℕ). quote_shut l q) (cons-at s j h) ∙ shut-here (get_or s j 0) (drop (j + 1) s) q n e

  pub shut-more : j < length s → (get_or s j 0 ≡ 92 → ⊥) → (get_or s j 0 ≡ q → ⊥) → quote_shut (drop j s) q ≡ quote_shut (drop (j + 1) s) q
  shut-more h n m = ap (λ (l : List ℕ). quote_shut l q) (cons-at s j h) ∙ shut-on (get_or s j 0) (drop (j + 1) s) q n m

  pub shut_none : length s ≤ j → quote_shut (drop j s) q ≡ false
  unfolding quote_shut
  shut_none h = rw (drop_of_length-le s h)
