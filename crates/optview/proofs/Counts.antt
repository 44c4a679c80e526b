-- The lines that a chain has left, and sizes. Assumes nothing.
use Rattle.std.proofs.Common.{◌≡◌, ℕ, suc, zero, ◌-◌, ◌<◌, ◌≤◌, Bool, true, false, cond, List, [], ◌∷◌, length, get_or, arith, sym, ap, ◌∙◌}
use Prim.Native.Nat.{◌*◌}
use borrow.Author.Tests.{le-leb, lt-leb}
use lib.Dec.{ltb, leb}
use Rattle.reader.specs.Chains.{along}
use Rattle.reader.proofs.ChainLaws.{along-none, along-zero, along-some}

module _ (end : ℕ) (ns : List ℕ) where
  -- a chain has no more lines than may come
  pub along-short : (k i : ℕ) → length (along end ns k i) ≤ k
  unfolding along
  along-short zero i = omega arith
  along-short (suc k) i =
      let go : (b : Bool) → length (cond b (i ∷ along end ns k (get_or ns i end)) []) ≤ suc k =
      λ b. elim b as (λ v. length (cond v (i ∷ along end ns k (get_or ns i end)) []) ≤ suc k) [ true ↦ omega (arith, along-short k (get_or ns i end)) | false ↦ omega arith ] in
      go (ltb i end)

  pub none_left : (k i : ℕ) → k ≡ 0 → along end ns k i ≡ []
  none_left k i h = ap (λ (n : ℕ). along end ns n i) h ∙ along-zero end i ns

  pub past_end : (k i : ℕ) → end ≤ i → along end ns k i ≡ []
  past_end k i h = along-none end k i ns h

  pub one_more : (k i j : ℕ) → (k ≡ 0 → ⊥) → i < end → j ≡ get_or ns i end → along end ns k i ≡ i ∷ along end ns (k - 1) j
  one_more k i j g h e =
      let q : k ≡ suc (k - 1) = omega (arith, g) in
      ap (λ (n : ℕ). along end ns n i) q ∙ along-some end (k - 1) i ns h ∙ ap (λ (m : ℕ). i ∷ along end ns (k - 1) m) (sym e)

-- the bytes of the records of n lines
pub size-within : (n : ℕ) → n ≤ 1024 → n * 7 ≡ cond (leb n 1024) (n * 7) 0
size-within n h = rw (le-leb n 1024 h)

pub size-beyond : (n : ℕ) → 1024 < n → 0 ≡ cond (leb n 1024) (n * 7) 0
size-beyond n h = rw (lt-leb n 1024 h)
