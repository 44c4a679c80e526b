-- The table of byte classes: its rule at all 256 entries, by tests that antt computes.
use mathlib.Core.Path.{◌≡◌, refl, sym, ap, ◌∙◌}
use mathlib.Core.List.{List, [], ◌∷◌}
use mathlib.Core.Bool.{Bool, true, false, not}
use Prim.Native.Nat.{ℕ, ◌≤◌, ◌<◌}
use native.Mathlib.Omega.{arith}
use borrow.Author.Tests.{ne_eqb, leb-true, leb-false}
use lib.Dec.{T, eqb, leb, eqb→eq}
use lib.ListN.{get_or}
use Rattle.lines.proofs.Tests.{is-in, is-above, is-out}
use Rattle.text.specs.Class.{is_name, is_quote, opens_pattern}
use Rattle.text.specs.Inner.Class.{class_of}
use Rattle.text.proofs.Table.{every, at}

-- the table of `class`
unfoldable pub classes : List ℕ
classes = 0 ∷ 0 ∷ 0 ∷ 0 ∷ 0 ∷ 0 ∷ 0 ∷ 0 ∷ 0 ∷ 0 ∷ 0 ∷ 0 ∷ 0 ∷ 0 ∷ 0 ∷ 0 ∷ 0 ∷ 0 ∷ 0 ∷ 0 ∷ 0 ∷ 0 ∷ 0 ∷ 0 ∷ 0 ∷ 0 ∷ 0 ∷ 0 ∷ 0 ∷ 0 ∷ 0 ∷ 0 ∷ 0 ∷ 3 ∷ 2 ∷ 0 ∷ 1 ∷ 3 ∷ 3 ∷ 2 ∷ 3 ∷ 0 ∷ 3 ∷ 3 ∷ 3 ∷ 3 ∷ 0 ∷ 0 ∷ 1 ∷ 1 ∷ 1 ∷ 1 ∷ 1 ∷ 1 ∷ 1 ∷ 1 ∷ 1 ∷ 1 ∷ 3 ∷ 3 ∷ 3 ∷ 3 ∷ 3 ∷ 3 ∷ 0 ∷ 1 ∷ 1 ∷ 1 ∷ 1 ∷ 1 ∷ 1 ∷ 1 ∷ 1 ∷ 1 ∷ 1 ∷ 1 ∷ 1 ∷ 1 ∷ 1 ∷ 1 ∷ 1 ∷ 1 ∷ 1 ∷ 1 ∷ 1 ∷ 1 ∷ 1 ∷ 1 ∷ 1 ∷ 1 ∷ 1 ∷ 3 ∷ 0 ∷ 0 ∷ 3 ∷ 1 ∷ 2 ∷ 1 ∷ 1 ∷ 1 ∷ 1 ∷ 1 ∷ 1 ∷ 1 ∷ 1 ∷ 1 ∷ 1 ∷ 1 ∷ 1 ∷ 1 ∷ 1 ∷ 1 ∷ 1 ∷ 1 ∷ 1 ∷ 1 ∷ 1 ∷ 1 ∷ 1 ∷ 1 ∷ 1 ∷ 1 ∷ 1 ∷ 3 ∷ 3 ∷ 3 ∷ 3 ∷ 0 ∷ 0 ∷ 0 ∷ 0 ∷ 0 ∷ 0 ∷ 0 ∷ 0 ∷ 0 ∷ 0 ∷ 0 ∷ 0 ∷ 0 ∷ 0 ∷ 0 ∷ 0 ∷ 0 ∷ 0 ∷ 0 ∷ 0 ∷ 0 ∷ 0 ∷ 0 ∷ 0 ∷ 0 ∷ 0 ∷ 0 ∷ 0 ∷ 0 ∷ 0 ∷ 0 ∷ 0 ∷ 0 ∷ 0 ∷ 0 ∷ 0 ∷ 0 ∷ 0 ∷ 0 ∷ 0 ∷ 0 ∷ 0 ∷ 0 ∷ 0 ∷ 0 ∷ 0 ∷ 0 ∷ 0 ∷ 0 ∷ 0 ∷ 0 ∷ 0 ∷ 0 ∷ 0 ∷ 0 ∷ 0 ∷ 0 ∷ 0 ∷ 0 ∷ 0 ∷ 0 ∷ 0 ∷ 0 ∷ 0 ∷ 0 ∷ 0 ∷ 0 ∷ 0 ∷ 0 ∷ 0 ∷ 0 ∷ 0 ∷ 0 ∷ 0 ∷ 0 ∷ 0 ∷ 0 ∷ 0 ∷ 0 ∷ 0 ∷ 0 ∷ 0 ∷ 0 ∷ 0 ∷ 0 ∷ 0 ∷ 0 ∷ 0 ∷ 0 ∷ 0 ∷ 0 ∷ 0 ∷ 0 ∷ 0 ∷ 0 ∷ 0 ∷ 0 ∷ 0 ∷ 0 ∷ 0 ∷ 0 ∷ 0 ∷ 0 ∷ 0 ∷ 0 ∷ 0 ∷ 0 ∷ 0 ∷ 0 ∷ 0 ∷ 0 ∷ 0 ∷ 0 ∷ 0 ∷ 0 ∷ 0 ∷ 0 ∷ 0 ∷ 0 ∷ 0 ∷ 0 ∷ 0 ∷ 0 ∷ 0 ∷ 0 ∷ 0 ∷ 0 ∷ 0 ∷ 0 ∷ []

right : ℕ → ℕ → Bool
right k x = eqb x (class_of k)

-- the entry of a byte is its class
pub class-at : (b : ℕ) → b < 256 → get_or classes b 0 ≡ class_of b
unfolding classes right class_of
class-at b h = eqb→eq (get_or classes b 0) (class_of b) (at right classes tt b h)

-- two tests agree
abbrev agree : Bool → Bool → Bool
agree true b = b
agree false b = not b

agree-eq : (a b : Bool) → T (agree a b) → a ≡ b
agree-eq true true t = refl
agree-eq true false t = absurd t
agree-eq false true t = absurd t
agree-eq false false t = refl

-- the bytes of class n are those that pass a test
is : ℕ → (ℕ → Bool) → ℕ → ℕ → Bool
is n f k x = agree (eqb x n) (f k)

by : (n : ℕ) (f : ℕ → Bool) → T (every (is n f) 0 classes) → (b : ℕ) → b < 256 → eqb (class_of b) n ≡ f b
unfolding is classes
by n f t b h = ap (λ (x : ℕ). eqb x n) (sym (class-at b h)) ∙ agree-eq (eqb (get_or classes b 0) n) (f b) (at (is n f) classes t b h)

pub class-name : (b : ℕ) → b < 256 → eqb (class_of b) 1 ≡ is_name b
unfolding is classes
class-name = by 1 (λ (b : ℕ). is_name b) tt

pub class-quote : (b : ℕ) → b < 256 → eqb (class_of b) 2 ≡ is_quote b
unfolding is classes
class-quote = by 2 (λ (b : ℕ). is_quote b) tt

pub class-opens : (b : ℕ) → b < 256 → eqb (class_of b) 3 ≡ opens_pattern b
unfolding is classes
class-opens = by 3 (λ (b : ℕ). opens_pattern b) tt

-- the bytes that need no table: the digits and the small letters belong to a name ..
pub name-digit : (b : ℕ) → 48 ≤ b → b ≤ 57 → is_name b ≡ true
name-digit b l h = simp (is-in 48 57 b l h)

pub name-small : (b : ℕ) → 97 ≤ b → b ≤ 122 → is_name b ≡ true
name-small b l h = simp (is-above 48 57 b (omega arith), is-above 65 90 b (omega arith), is-in 97 122 b l h)

pub name-capital : (b : ℕ) → 65 ≤ b → b ≤ 90 → is_name b ≡ true
name-capital b l h = simp (is-above 48 57 b (omega arith), is-in 65 90 b l h)

-- .. and what is outside of all ranges to none, nor is it a quote
pub no_name : (b : ℕ) → (48 ≤ b → 57 < b) → (65 ≤ b → 90 < b) → (97 ≤ b → 122 < b) → (b ≡ 95 → ⊥) → (b ≡ 36 → ⊥) → is_name b ≡ false
no_name b d u l s m = simp (is-out 48 57 b d, is-out 65 90 b u, is-out 97 122 b l, ne_eqb b 95 s, ne_eqb b 36 m)

-- from `a` on `z` is the last
pub name-past : (b : ℕ) → 97 ≤ b → leb b 122 ≡ is_name b
name-past b h = go (leb b 122) refl
  where
    go : (t : Bool) → leb b 122 ≡ t → t ≡ is_name b
    go true e = let k = leb-true b 122 e in sym (name-small b h (omega arith))
    go false e = let k = leb-false b 122 e in sym (no_name b (omega arith) (omega arith) (omega arith) (omega arith) (omega arith))

pub no-quote : (b : ℕ) → (b ≡ 34 → ⊥) → (b ≡ 39 → ⊥) → (b ≡ 96 → ⊥) → is_quote b ≡ false
no-quote b x y z = simp (ne_eqb b 34 x, ne_eqb b 39 y, ne_eqb b 96 z)
