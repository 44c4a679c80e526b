-- No line of a text has what the whole text lacks. Assumes nothing.
use Rattle.std.proofs.Common.{◌≡◌, ℕ, suc, Bool, true, false, not, eqb, List, [], ◌∷◌, take, drop, refl, ap, ◌∙◌, arith}
use Rattle.lines.specs.Lf.{up_to, cut_on, lines_of, all}
use Rattle.lines.proofs.Tests.{and_right}
use Rattle.lines.proofs.LfLaws.{lines-first}

-- a test that what lacks it passes on to its parts
module _ (f : List ℕ → Bool) (rest : (x : ℕ) (s : List ℕ) → f (x ∷ s) ≡ false → f s ≡ false) (front : (n : ℕ) (s : List ℕ) → f s ≡ false → f (take n s) ≡ false) where
  pub lines-lack : (s : List ℕ) → f s ≡ false → all (λ (l : List ℕ). not (f l)) (lines_of s) ≡ true
  unfolding lines_of cut_on
  lines-lack [] h = refl
  lines-lack (x ∷ s) h = go (eqb x 10) (lines_of s) (lines-lack s (rest x s h)) (lines-first (x ∷ s) (omega arith))
    where
      head : List (List ℕ) → List ℕ
      head [] = []
      head (l ∷ ls) = l

      cut : List ℕ
      cut = take (up_to 10 (x ∷ s)) (x ∷ s)

      first : (l : List ℕ) (ls : List (List ℕ)) → l ∷ ls ≡ cut ∷ lines_of (drop (suc (up_to 10 (x ∷ s))) (x ∷ s)) → f l ≡ false
      first l ls e = ap (λ (ms : List (List ℕ)). f (head ms)) e ∙ front (up_to 10 (x ∷ s)) (x ∷ s) h

      go : (b : Bool) (ms : List (List ℕ)) → all (λ (l : List ℕ). not (f l)) ms ≡ true → cut_on b x ms ≡ cut ∷ lines_of (drop (suc (up_to 10 (x ∷ s))) (x ∷ s)) → all (λ (l : List ℕ). not (f l)) (cut_on b x ms) ≡ true
      go true ms k e = rw (first [] ms e) k
      go false [] k e = rw (first (x ∷ []) [] e)
      go false (m ∷ ms) k e = rw (first (x ∷ m) ms e) (and_right (not (f m)) (all (λ (l : List ℕ). not (f l)) ms) k)
