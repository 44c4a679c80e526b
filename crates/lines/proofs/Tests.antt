-- Laws of the tests that the definitions are made of. Assumes nothing.
use Rattle.std.proofs.Common.{◌≡◌, ℕ, ◌<◌, ◌≤◌, Bool, true, false, ◌&&◌, ◌||◌, T, eqb, leb, sym, refl, ◌∙◌, arith, eq-eqb, ne_eqb, eqb-true, le-leb, leb-true}
use borrow.Author.Tests.{lt-leb, eqb-false}
use Rattle.lines.specs.Lf.{within}

-- what cannot be
pub no : {A : Type 0} → false ≡ true → A
no h = let z : ◌≡◌ {A = ℕ} 0 1 = cc in absurd (omega arith)

pub or-true : (b : Bool) → b || true ≡ true
or-true true = refl
or-true false = refl

pub or-false : (b : Bool) → b || false ≡ b
or-false true = refl
or-false false = refl

pub and-false : (b : Bool) → b && false ≡ false
and-false true = refl
and-false false = refl

pub and-true : (b : Bool) → b && true ≡ b
and-true true = refl
and-true false = refl

pub and_left : (a b : Bool) → a && b ≡ true → a ≡ true
and_left true b h = refl
and_left false b h = h

pub and_right : (a b : Bool) → a && b ≡ true → b ≡ true
and_right true b h = h
and_right false b h = cc

pub and_both : {a b : Bool} → a ≡ true → b ≡ true → a && b ≡ true
and_both p q = rw (p, q)

pub eqb-sym : (a b : ℕ) → eqb a b ≡ eqb b a
eqb-sym a b = go (eqb a b) refl
  where
    go : (t : Bool) → eqb a b ≡ t → eqb a b ≡ eqb b a
    go true e = e ∙ sym (eq-eqb b a (sym (eqb-true a b e)))
    go false e = e ∙ sym (ne_eqb b a (λ q. eqb-false a b e (sym q)))

-- x is in lo to hi
pub is-in : (lo hi x : ℕ) → lo ≤ x → x ≤ hi → within lo hi x ≡ true
is-in lo hi x p q = rw (le-leb lo x p, le-leb x hi q)

pub is_below : (lo hi x : ℕ) → x < lo → within lo hi x ≡ false
is_below lo hi x p = rw (lt-leb lo x p)

pub is-above : (lo hi x : ℕ) → hi < x → within lo hi x ≡ false
is-above lo hi x p = rw (lt-leb x hi p) (and-false (leb lo x))

-- x is not in lo to hi: for a goal whose hypotheses say so in any form that `omega` reads
pub is-out : (lo hi x : ℕ) → (lo ≤ x → hi < x) → within lo hi x ≡ false
is-out lo hi x f = go (leb lo x) refl
  where
    go : (b : Bool) → leb lo x ≡ b → within lo hi x ≡ false
    go true e = is-above lo hi x (f (leb-true lo x e))
    go false e = rw e

-- a call of a test: what its contract says of its result, and which way the branch on it went
pub so : {r t b : Bool} → r ≡ t → r ≡ b → t ≡ b
so e h = sym e ∙ h

-- a conjunction as a type, part by part
pub T-left : (a b : Bool) → T (a && b) → T a
T-left true b t = tt
T-left false b t = t

pub T-right : (a b : Bool) → T (a && b) → T b
T-right true b t = t
T-right false b t = absurd t
