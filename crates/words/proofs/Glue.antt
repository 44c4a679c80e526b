-- Laws of the tests round a hit, and of what is written in its place. Assumes nothing.
use Prim.Native.Nat.{ℕ, ◌+◌, ◌-◌, ◌<◌}
use mathlib.Core.Path.{◌≡◌, refl, sym, ap, ◌∙◌}
use mathlib.Core.Bool.{Bool, true, false, not, ◌&&◌, ◌||◌}
use mathlib.Core.List.{List, [], ◌∷◌, ◌++◌}
use native.Mathlib.Omega.{arith}
use borrow.Author.Tests.{eq-eqb, ne_eqb, eqb-true, eqb-false}
use lib.Dec.{eqb}
use lib.ListN.{length, take, drop, get_or, length-append}
use Rattle.lines.specs.Lf.{part, prefixed}
use Rattle.lines.proofs.LfLaws.{rest_of}
use Rattle.lines.proofs.Tests.{and-true}
use Rattle.text.specs.Trim.{trim_start}
use Rattle.names.specs.Names.{is_digit}
use Rattle.words.specs.Hits.{target_by, as_target, glue_left, glue_right, glued, replaced_at}

-- what stands before a place
pub front-part : (s : List ℕ) (e : ℕ) → part 0 e s ≡ take e s
front-part s e = let q : e - 0 ≡ e = omega arith in ap (λ (n : ℕ). take n s) q

-- ---- a target

module _ (to : ℕ) (l a : List ℕ) (e : a ≡ trim_start (drop to l)) where
  target : as_target to l ≡ target_by a
  unfolding as_target
  target = ap target_by (sym e)

  pub target-plus : prefixed (43 ∷ 43 ∷ []) a ≡ true → as_target to l ≡ true
  target-plus p = target ∙ rw p

  module _ (p : prefixed (43 ∷ 43 ∷ []) a ≡ false) where
    pub target-minus : prefixed (45 ∷ 45 ∷ []) a ≡ true → as_target to l ≡ true
    target-minus q = target ∙ rw (p, q)

    module _ (q : prefixed (45 ∷ 45 ∷ []) a ≡ false) where
      pub target-not : prefixed (61 ∷ []) a ≡ false → as_target to l ≡ false
      target-not r = target ∙ rw (p, q, r)

      pub target-store : prefixed (61 ∷ []) a ≡ true → as_target to l ≡ not (prefixed (61 ∷ 61 ∷ []) a)
      target-store r = target ∙ rw (p, q, r)

-- ---- glue

first_byte : (b : ℕ) (l : List ℕ) → 0 < b → prefixed (b ∷ []) l ≡ eqb (get_or l 0 0) b
unfolding prefixed
first_byte b [] h = sym (ne_eqb 0 b (omega arith))
first_byte b (x ∷ l) h = and-true (eqb b x) ∙ go (eqb x b) refl
  where
    go : (t : Bool) → eqb x b ≡ t → eqb b x ≡ eqb x b
    go true e = eq-eqb b x (sym (eqb-true x b e)) ∙ sym e
    go false e = let n = eqb-false x b e in ne_eqb b x (λ q. n (sym q)) ∙ sym e

pub glue-is : (before rep after : List ℕ) →
    ((eqb (get_or before (length before - 1) 0) 45 && eqb (get_or rep 0 0) 45) || (eqb (get_or before (length before - 1) 0) 43 && eqb (get_or rep 0 0) 43))
    || (is_digit (get_or rep (length rep - 1) 0) && eqb (get_or after 0 0) 46)
    ≡ glue_left before rep || glue_right rep after
unfolding glue_left glue_right
glue-is before rep after = rw (first_byte 45 rep (omega arith), first_byte 43 rep (omega arith), first_byte 46 after (omega arith))

module _ (before rep after : List ℕ) where
  pub glued-bare : glue_left before rep || glue_right rep after ≡ false → glued before rep after ≡ rep
  unfolding glued
  glued-bare e = rw e

  pub glued-held : glue_left before rep || glue_right rep after ≡ true → glued before rep after ≡ (40 ∷ []) ++ rep ++ (41 ∷ [])
  unfolding glued
  glued-held e = rw e

  pub glued-two : glue_left before rep || glue_right rep after ≡ true → length (glued before rep after) ≡ length rep + 2
  glued-two e = omega (arith, ap length (glued-held e), length-append ((40 ∷ []) ++ rep) (41 ∷ []))

-- the line with a replacement, by its parts
module _ (from to : ℕ) (l rep before after : List ℕ) (p : before ≡ part 0 from l) (q : after ≡ part to (length l) l) where
  pub replaced-is : (before ++ glued before rep after) ++ after ≡ replaced_at from to l rep
  unfolding replaced_at
  replaced-is =
      let a : before ≡ take from l = p ∙ front-part l from in
      let b : after ≡ drop to l = q ∙ rest_of l to in
      rw (a, b)

  pub replaced-length : length before + length (glued before rep after) + length after ≡ length (replaced_at from to l rep)
  replaced-length =
      omega (arith, ap length replaced-is, length-append (before ++ glued before rep after) after, length-append before (glued before rep after))
