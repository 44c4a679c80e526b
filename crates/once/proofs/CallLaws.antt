-- Laws of the search for a call of a member that looks at nothing else. Assumes nothing.
use Prim.Native.Nat.{ℕ, suc, ◌+◌, ◌≤◌, ◌<◌, min}
use mathlib.Core.Path.{◌≡◌, refl, sym, ap, ◌∙◌}
use mathlib.Core.Bool.{Bool, true, false, cond, not, ◌&&◌, ◌||◌}
use mathlib.Core.List.{List, [], ◌∷◌, ◌++◌}
use native.Mathlib.Omega.{arith}
use borrow.Author.Tests.{eqb-false, ne_eqb}
use lib.Dec.{eqb}
use lib.ListN.{length, drop}
use Rattle.lines.specs.Lf.{part, up_to, lines_of, prefixed, holds}
use Rattle.lines.proofs.Tests.{no, and-false}
use Rattle.lines.proofs.LfLaws.{lines-at, lines_end}
use Rattle.names.specs.Names.{reg_of}
use Rattle.place.specs.Region.{is_header}
use Rattle.once.specs.Scratch.{object_of, changes_by, called_below}
use Rattle.once.specs.Inner.Tables.{any_call}

-- ---- a text without `(`

up-cons : (b y : ℕ) (s : List ℕ) → length (y ∷ s) ≤ up_to b (y ∷ s) → (eqb y b ≡ false) × (length s ≤ up_to b s)
unfolding up_to
up-cons b y s h = go (eqb y b) refl h
  where
    go : (t : Bool) → eqb y b ≡ t → suc (length s) ≤ cond t 0 (suc (up_to b s)) → (eqb y b ≡ false) × (length s ≤ up_to b s)
    go true e k = absurd (omega arith)
    go false e k = (e, omega arith)

not_first : (x s : List ℕ) → length s ≤ up_to 40 s → prefixed (x ++ 40 ∷ []) s ≡ false
unfolding prefixed
not_first [] [] h = refl
not_first [] (y ∷ s) h = let u = up-cons 40 y s h in rw (ne_eqb 40 y (λ z. eqb-false y 40 u.0 (sym z))) refl
not_first (a ∷ x) [] h = refl
not_first (a ∷ x) (y ∷ s) h = let u = up-cons 40 y s h in rw (not_first x s u.1) (and-false (eqb a y))

pub no_call : (x s : List ℕ) → length s ≤ up_to 40 s → holds (x ++ 40 ∷ []) s ≡ false
unfolding holds
no_call x [] h = not_first x [] h
no_call x (y ∷ s) h = let u = up-cons 40 y s h in rw (not_first x (y ∷ s) h, no_call x s u.1) refl

-- ---- where no line holds the call, none comes before a change of the object

any-cons : (x l : List ℕ) (ls : List (List ℕ)) (a b : Bool) → is_header l ≡ a → holds (x ++ 40 ∷ []) l ≡ b → any_call x (l ∷ ls) ≡ cond a false (b || any_call x ls)
unfolding any_call
any-cons x l ls a b p q = rw (p, q)

called-cons : (x l : List ℕ) (ls : List (List ℕ)) (a b : Bool) → is_header l ≡ a → holds (x ++ 40 ∷ []) l ≡ b →
    called_below x (l ∷ ls) ≡ cond a false (b || (not (changes_by (reg_of (object_of x)) (object_of x) l) && called_below x ls))
unfolding called_below
called-cons x l ls a b p q = rw (p, q)

pub any_none : (x : List ℕ) (ls : List (List ℕ)) → any_call x ls ≡ false → called_below x ls ≡ false
unfolding called_below
any_none x [] h = refl
any_none x (l ∷ ls) h = go (λ t. any_none x ls t) (is_header l) refl (holds (x ++ 40 ∷ []) l) refl
  where
    go : (any_call x ls ≡ false → called_below x ls ≡ false) → (a : Bool) → is_header l ≡ a → (b : Bool) → holds (x ++ 40 ∷ []) l ≡ b → called_below x (l ∷ ls) ≡ false
    go more true p b q = called-cons x l ls true b p q
    go more false p true q = no (sym h ∙ any-cons x l ls false true p q)
    go more false p false q =
        called-cons x l ls false false p q
        ∙ ap (λ (t : Bool). not (changes_by (reg_of (object_of x)) (object_of x) l) && t) (more (sym (any-cons x l ls false false p q) ∙ h))
        ∙ and-false (not (changes_by (reg_of (object_of x)) (object_of x) l))

-- ---- the loop; l is the line

module _ (x s : List ℕ) (i e : ℕ) (h : i < length s) (q : e ≡ i + up_to 10 (drop i s)) (l : List ℕ) (p : l ≡ part i e s) where
  any_at : (a b : Bool) → is_header l ≡ a → holds (x ++ 40 ∷ []) l ≡ b → any_call x (lines_of (drop i s)) ≡ cond a false (b || any_call x (lines_of (drop (min (e + 1) (length s)) s)))
  any_at a b y z =
      ap (any_call x) (lines-at s i e h q)
      ∙ any-cons x (part i e s) (lines_of (drop (min (e + 1) (length s)) s)) a b (ap is_header (sym p) ∙ y) (ap (holds (x ++ 40 ∷ [])) (sym p) ∙ z)

  pub any-header : is_header l ≡ true → any_call x (lines_of (drop i s)) ≡ false
  any-header k = any_at true _ k refl

  pub any_found : is_header l ≡ false → holds (x ++ 40 ∷ []) l ≡ true → any_call x (lines_of (drop i s)) ≡ true
  any_found k t = any_at false true k t

  pub any-on : is_header l ≡ false → holds (x ++ 40 ∷ []) l ≡ false → (r : ℕ) → r ≡ min (e + 1) (length s) → any_call x (lines_of (drop i s)) ≡ any_call x (lines_of (drop r s))
  any-on k t r z = any_at false false k t ∙ ap (λ (n : ℕ). any_call x (lines_of (drop n s))) (sym z)

pub any-end : (x s : List ℕ) (i : ℕ) → length s ≤ i → any_call x (lines_of (drop i s)) ≡ false
unfolding any_call
any-end x s i h = ap (any_call x) (lines_end s i h)
