-- Cheap signs that decide for a line: a byte that it lacks. Assumes nothing.
use Prim.Native.Nat.{ℕ}
use mathlib.Core.Path.{◌≡◌, refl, sym, ◌∙◌}
use mathlib.Core.Bool.{Bool, true, false, ◌&&◌, ◌||◌}
use mathlib.Core.List.{List, [], ◌∷◌}
use borrow.Author.Tests.{ne_eqb, eqb-false}
use lib.Dec.{eqb}
use lib.ListN.{get_or}
use Rattle.lines.specs.Lf.{prefixed, holds}
use Rattle.lines.proofs.Tests.{no, and-false}
use Rattle.forms.specs.Control.{is_control}
use Rattle.calls.specs.Inner.Steps.{is_second, may_control}

-- ---- a condition or a loop

-- where a byte stands nowhere, no word stands that begins with it
holds_not : (b : ℕ) (p l : List ℕ) → holds (b ∷ []) l ≡ false → holds (b ∷ p) l ≡ false
unfolding holds prefixed
holds_not b p [] h = refl
holds_not b p (x ∷ l) h = go (eqb b x) h (holds_not b p l)
  where
    go : (t : Bool) → (t && true) || holds (b ∷ []) l ≡ false → (holds (b ∷ []) l ≡ false → holds (b ∷ p) l ≡ false) → (t && prefixed p l) || holds (b ∷ p) l ≡ false
    go true e f = no (sym e)
    go false e f = f e

-- a text begins with no word whose second byte is another
second-not : (a b : ℕ) (p t : List ℕ) → eqb (get_or t 1 0) b ≡ false → prefixed (a ∷ b ∷ p) t ≡ false
unfolding prefixed
second-not a b p [] e = refl
second-not a b p (x ∷ []) e = and-false (eqb a x)
second-not a b p (x ∷ y ∷ l) e = rw (ne_eqb b y (λ z. eqb-false y b e (sym z))) (and-false (eqb a x))

or_parts : (a b : Bool) → a || b ≡ false → (a ≡ false) × (b ≡ false)
or_parts true b e = no (sym e)
or_parts false b e = (refl, e)

pub control-not : (t : List ℕ) → may_control t ≡ false → false ≡ is_control t
unfolding may_control is_control
control-not t e =
    let p = or_parts (is_second (get_or t 1 0)) (holds (58 ∷ []) t || holds (125 ∷ []) t) e in
    let q = or_parts (holds (58 ∷ []) t) (holds (125 ∷ []) t) p.1 in
    let y = get_or t 1 0 in
    let w = or_parts ((eqb y 104 || eqb y 111) || eqb y 102) (eqb y 119) p.0 in
    let f = or_parts (eqb y 104 || eqb y 111) (eqb y 102) w.0 in
    let h = or_parts (eqb y 104) (eqb y 111) f.0 in
    rw (
      second-not 119 104 (105 ∷ 108 ∷ 101 ∷ 32 ∷ 40 ∷ []) t h.0,
      second-not 119 104 (105 ∷ 108 ∷ 101 ∷ 40 ∷ []) t h.0,
      second-not 102 111 (114 ∷ 32 ∷ 40 ∷ []) t h.1,
      second-not 102 111 (114 ∷ 40 ∷ []) t h.1,
      second-not 105 102 (32 ∷ 40 ∷ []) t f.1,
      second-not 105 102 (40 ∷ []) t f.1,
      second-not 115 119 (105 ∷ 116 ∷ 99 ∷ 104 ∷ 32 ∷ 40 ∷ []) t w.1,
      second-not 115 119 (105 ∷ 116 ∷ 99 ∷ 104 ∷ 40 ∷ []) t w.1,
      second-not 100 111 (32 ∷ 123 ∷ []) t h.1,
      holds_not 58 (32 ∷ 119 ∷ 104 ∷ 105 ∷ 108 ∷ 101 ∷ 32 ∷ 40 ∷ []) t q.0,
      holds_not 58 (32 ∷ 102 ∷ 111 ∷ 114 ∷ 32 ∷ 40 ∷ []) t q.0,
      holds_not 125 (32 ∷ 101 ∷ 108 ∷ 115 ∷ 101 ∷ 32 ∷ 105 ∷ 102 ∷ 32 ∷ 40 ∷ []) t q.1,
    ) refl

module _ (t : List ℕ) (r : Bool) where
  pub may-second : r ≡ is_second (get_or t 1 0) → r ≡ true → true ≡ may_control t
  unfolding may_control
  may-second e h = sym (rw (sym e ∙ h) refl)

  module _ (e : r ≡ is_second (get_or t 1 0)) (h : r ≡ false) (a : Bool) (q : a ≡ holds (58 ∷ []) t) where
    pub may-colon : a ≡ true → true ≡ may_control t
    unfolding may_control
    may-colon k = sym (rw (sym e ∙ h, sym q ∙ k) refl)

    pub may-brace : a ≡ false → (b : Bool) → b ≡ holds (125 ∷ []) t → b ≡ may_control t
    unfolding may_control
    may-brace k b w = w ∙ sym (rw (sym e ∙ h, sym q ∙ k) refl)
