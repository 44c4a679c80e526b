-- The steps of `elements` at a place of a text, and of the purity of a text that is cut. Assumes nothing.
use Prim.Native.Nat.{ℕ, ◌+◌, ◌-◌, ◌≤◌, ◌<◌}
use mathlib.Core.Path.{◌≡◌, refl, sym, ◌∙◌}
use mathlib.Core.Bool.{Bool, true, false, cond, ◌&&◌}
use mathlib.Core.List.{List, [], ◌∷◌}
use native.Mathlib.Omega.{arith}
use native.Mathlib.Numerals.{add-one}
use lib.Dec.{eqb}
use lib.ListN.{length, drop, get_or, length-take, length-drop, drop_of_length-le}
use lib.Seq.{drop-cons}
use Rattle.lines.specs.Lf.{among, part, all}
use Rattle.lines.proofs.Tests.{and-true}
use Rattle.lines.proofs.LfLaws.{part_none, part-more}
use Rattle.expr.specs.Pure.{is_space, space_trim, shape_of, openings, closings, elements, pure_by, judge}
use Rattle.expr.specs.Inner.Pure.{purity_cut}
use Rattle.expr.specs.declared.kinds.Shape.{Shape}
use Rattle.expr.specs.declared.kinds.Shape.TheVariants.{Plain, Array}
use Rattle.expr.specs.declared.kinds.Purity.{Purity}
use Rattle.expr.specs.declared.kinds.Purity.TheVariants.{Stable, Effectful}
use Rattle.expr.proofs.PureLaws.{cut-eq}

-- ---- brackets

one-le : (t : Bool) → cond t 1 0 ≤ 1
one-le true = omega arith
one-le false = omega arith

pub opens-le : (b : ℕ) → openings b ≤ 1
unfolding openings
opens-le b = one-le (among (40 ∷ 91 ∷ 123 ∷ []) b)

pub closes-le : (b : ℕ) → closings b ≤ 1
unfolding closings
closes-le b = one-le (among (41 ∷ 93 ∷ 125 ∷ []) b)

-- ---- the walk

-- whether f holds of each element, from the place i of s on, the present one having begun at a
abbrev pub walk : (List ℕ → Bool) → List ℕ → ℕ → ℕ → ℕ → ℕ → Bool
walk f s a i o c = all f (elements (drop i s) (part a i s) o c)

module _ (f : List ℕ → Bool) (s : List ℕ) (a i o c : ℕ) where
  pub walk-comma : i < length s → (eqb (get_or s i 0) 44 && eqb o c) ≡ true → f (part a i s) ≡ true → walk f s a i o c ≡ walk f s (i + 1) (i + 1) o c
  unfolding elements
  walk-comma p h t = rw (drop-cons s i 0, h, t, part_none, add-one)

  pub walk-stop : i < length s → (eqb (get_or s i 0) 44 && eqb o c) ≡ true → f (part a i s) ≡ false → walk f s a i o c ≡ false
  unfolding elements
  walk-stop p h t = rw (drop-cons s i 0, h, t)

  pub walk-byte : a ≤ i → i < length s → (eqb (get_or s i 0) 44 && eqb o c) ≡ false →
      walk f s a i o c ≡ walk f s a (i + 1) (o + openings (get_or s i 0)) (c + closings (get_or s i 0))
  unfolding elements
  walk-byte q p h = rw (drop-cons s i 0, h, part-more s a i, add-one)

  pub walk_end : length s ≤ i → walk f s a i o c ≡ cond (all is_space (part a i s)) true (f (part a i s))
  unfolding elements
  walk_end p = rw (drop_of_length-le s p) (go (all is_space (part a i s)) (part a i s))
    where
      go : (b : Bool) (now : List ℕ) → all f (cond b [] (now ∷ [])) ≡ cond b true (f now)
      go true now = refl
      go false now = and-true (f now)

-- what is asked of a part of the text is less than what is asked of its elements
pub part_falls : (s : List ℕ) (a e t : ℕ) → length s + length s + 1 ≡ t → length (part a e s) + length (part a e s) < t
part_falls s a e t m = let k : length (part a e s) ≤ length s = simp (length-take, length-drop) (omega arith) in omega arith

-- ---- the purity of a text whose trimmed form has that shape

module _ (q : List ℕ → Bool) (s r : List ℕ) (k : Shape) (e : r ≡ space_trim s) (h : k ≡ shape_of q r) where
  pub cut-plain : (p : Purity) → k ≡ Plain p → p ≡ purity_cut q s
  unfolding judge
  cut-plain p g = sym (cut-eq q s ∙ rw (← e, ← h, g))

  pub cut_array : (b : Bool) → k ≡ Array → b ≡ pure_by (purity_cut q) (part 1 (length r - 1) r) → cond b Stable Effectful ≡ purity_cut q s
  unfolding judge
  cut_array b g p = sym (cut-eq q s ∙ rw (← e, ← h, g, ← p))
