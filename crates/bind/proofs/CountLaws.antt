-- Counting declarations and stores up to 2, and the first line that uses a register. Assumes nothing.
use Prim.Native.Nat.{ℕ, suc, ◌+◌, ◌≤◌, ◌<◌, min}
use mathlib.Core.Path.{◌≡◌, refl, sym, ap, ◌∙◌}
use mathlib.Core.Bool.{Bool, true, false, cond, ◌&&◌}
use mathlib.Core.List.{List, [], ◌∷◌}
use native.Mathlib.Omega.{arith}
use native.Mathlib.Numerals.{add-one}
use borrow.Author.Tests.{eq-eqb, ne_eqb, eqb-true, eqb-false, ltb-true, ltb-false}
use lib.Dec.{eqb, ltb}
use lib.ListN.{length, get_or, drop, length-drop, get_or-eq_default}
use lib.Seq.{drop-drop, get_or-drop}
use Rattle.lines.specs.Lf.{part, up_to, lines_of, parts_of}
use Rattle.lines.proofs.LfLaws.{lines-at, lines_end}
use Rattle.lines.proofs.Tests.{and-false, no}
use Rattle.text.specs.Trim.{lead, from_of, end_white, to_of, trim_of}
use Rattle.names.specs.Names.{reg_of, reg_is}
use Rattle.parse.specs.Parse.{body_of, is_decl, store_in, parse_of}
use Rattle.reading.specs.Uses.{line_stores, line_uses}
use Rattle.bind.specs.Bind.{piece_count, decl_count, store_count}
use Rattle.bind.specs.Inner.Steps.{use_row, stores_at}

-- ---- counts up to 2

once_by : (c n : ℕ) → (c ≡ 1 → n ≡ 1) → (n ≡ 1 → c ≡ 1) → eqb c 1 ≡ eqb n 1
once_by c n f g = go (eqb c 1) refl
  where
    go : (b : Bool) → eqb c 1 ≡ b → eqb c 1 ≡ eqb n 1
    go true e = e ∙ sym (eq-eqb n 1 (f (eqb-true c 1 e)))
    go false e = e ∙ sym (ne_eqb n 1 (λ q. eqb-false c 1 e (g q)))

-- one in all, of three counts
pub once-three : (a b c x y z : ℕ) → a ≡ min (0 + x) 2 → b ≡ min (a + y) 2 → c ≡ min (b + z) 2 → eqb c 1 ≡ eqb (x + (y + z)) 1
once-three a b c x y z p q r = once_by c (x + (y + z)) (λ h. omega arith) (λ h. omega arith)

-- of two
pub once-two : (a b x y : ℕ) → a ≡ min (0 + x) 2 → b ≡ min (a + y) 2 → eqb b 1 ≡ eqb (x + y) 1
once-two a b x y p q = once_by b (x + y) (λ h. omega arith) (λ h. omega arith)

-- ---- pieces

pub piece-cons : (v : ℕ) (p : List ℕ) (ps : List (List ℕ)) (b : Bool) → b ≡ reg_is v (reg_of (trim_of p)) → piece_count v (p ∷ ps) ≡ cond b 1 0 + piece_count v ps
unfolding piece_count
piece-cons v p ps true e = rw (← e) (omega arith)
piece-cons v p ps false e = rw (← e) (omega arith)

pub piece-nil : (v : ℕ) → piece_count v [] ≡ 0
unfolding piece_count
piece-nil v = refl

-- ---- declarations

-- a declaration by itself
pub decl-line : (v : ℕ) (l t : List ℕ) → t ≡ trim_of l → is_decl t ≡ true → decl_count v (l ∷ []) ≡ piece_count v (parts_of 44 (body_of t))
unfolding decl_count
decl-line v l t z e = rw (← z, e) (omega arith)

pub decl-not : (v : ℕ) (l t : List ℕ) → t ≡ trim_of l → is_decl t ≡ false → decl_count v (l ∷ []) ≡ 0
unfolding decl_count
decl-not v l t z e = rw (← z, e) (omega arith)

pub decl-cons : (v : ℕ) (l : List ℕ) (ls : List (List ℕ)) → decl_count v (l ∷ ls) ≡ decl_count v (l ∷ []) + decl_count v ls
unfolding decl_count
decl-cons v l ls = omega arith

pub decl-nil : (v : ℕ) → decl_count v [] ≡ 0
unfolding decl_count
decl-nil v = refl

-- ---- stores

pub store-cons : (v : ℕ) (l : List ℕ) (ls : List (List ℕ)) (b : Bool) → b ≡ line_stores v l → store_count v (l ∷ ls) ≡ cond b 1 0 + store_count v ls
unfolding store_count
store-cons v l ls true e = rw (← e) (omega arith)
store-cons v l ls false e = rw (← e) (omega arith)

pub store-nil : (v : ℕ) → store_count v [] ≡ 0
unfolding store_count
store-nil v = refl

-- ---- the first use

pub use-here : (v : ℕ) (l : List ℕ) (ls : List (List ℕ)) → line_uses v l ≡ true → use_row v (l ∷ ls) ≡ 0
unfolding use_row
use-here v l ls e = rw e

pub use-next : (v : ℕ) (l : List ℕ) (ls : List (List ℕ)) → line_uses v l ≡ false → use_row v (l ∷ ls) ≡ suc (use_row v ls)
unfolding use_row
use-next v l ls e = rw e

pub use-nil : (v : ℕ) → use_row v [] ≡ 0
unfolding use_row
use-nil v = refl

-- ---- line by line

module _ (v : ℕ) (s : List ℕ) (i e r : ℕ) (h : i < length s) (q : e ≡ i + up_to 10 (drop i s)) (z : r ≡ min (e + 1) (length s)) (l : List ℕ) (y : l ≡ part i e s) where
  lines-here : lines_of (drop i s) ≡ l ∷ lines_of (drop r s)
  lines-here = lines-at s i e h q ∙ rw (← y, ← z)

  pub decls-on : decl_count v (lines_of (drop i s)) ≡ decl_count v (l ∷ []) + decl_count v (lines_of (drop r s))
  decls-on = ap (decl_count v) lines-here ∙ decl-cons v l _

  pub stores-on : (b : Bool) → b ≡ line_stores v l → store_count v (lines_of (drop i s)) ≡ cond b 1 0 + store_count v (lines_of (drop r s))
  stores-on b x = ap (store_count v) lines-here ∙ store-cons v l _ b x

  pub use-hit : line_uses v l ≡ true → use_row v (lines_of (drop i s)) ≡ 0
  use-hit x = ap (use_row v) lines-here ∙ use-here v l _ x

  pub use-on : line_uses v l ≡ false → use_row v (lines_of (drop i s)) ≡ suc (use_row v (lines_of (drop r s)))
  use-on x = ap (use_row v) lines-here ∙ use-next v l _ x

  pub rows_on : (k : ℕ) → lines_of (drop i s) ≡ drop k (lines_of s) → lines_of (drop r s) ≡ drop (k + 1) (lines_of s)
  rows_on k x = sym (ap (drop 1) lines-here) ∙ ap (drop 1) x ∙ drop-drop 1 k (lines_of s)

module _ (v : ℕ) (s : List ℕ) (i : ℕ) (h : length s ≤ i) where
  pub decls-end : decl_count v (lines_of (drop i s)) ≡ 0
  decls-end = ap (decl_count v) (lines_end s i h) ∙ decl-nil v

  pub stores-end : store_count v (lines_of (drop i s)) ≡ 0
  stores-end = ap (store_count v) (lines_end s i h) ∙ store-nil v

  pub use-end : use_row v (lines_of (drop i s)) ≡ 0
  use-end = ap (use_row v) (lines_end s i h) ∙ use-nil v

-- ---- the line of the first use

-- a line with nothing on it stores nothing
pub blank-stores : (v : ℕ) → line_stores v [] ≡ false
unfolding line_stores parse_of store_in is_decl trim_of from_of to_of lead end_white
blank-stores v = refl

-- the first n of ls are gone, and this is left
module _ (ls : List (List ℕ)) (n : ℕ) where
  get_at : get_or ls n [] ≡ get_or (drop n ls) 0 []
  get_at = let z : n + 0 ≡ n = omega arith in sym (get_or-drop n ls 0 [] ∙ ap (λ (k : ℕ). get_or ls k []) z)

  pub get_none : drop n ls ≡ [] → get_or ls n [] ≡ []
  get_none e = get_at ∙ ap (λ (r : List (List ℕ)). get_or r 0 []) e

  pub get-some : (l : List ℕ) (more : List (List ℕ)) → drop n ls ≡ l ∷ more → get_or ls n [] ≡ l
  get-some l more e = get_at ∙ ap (λ (r : List (List ℕ)). get_or r 0 []) e

  pub some-lt : (l : List ℕ) (more : List (List ℕ)) → drop n ls ≡ l ∷ more → n < length ls
  some-lt l more e = omega (arith, ap length e, length-drop n ls)

-- a line that stores is one of them
pub stores-lt : (v : ℕ) (ls : List (List ℕ)) (n : ℕ) → line_stores v (get_or ls n []) ≡ true → n < length ls
stores-lt v ls n e = go (ltb n (length ls)) refl
  where
    go : (b : Bool) → ltb n (length ls) ≡ b → n < length ls
    go true h = ltb-true n (length ls) h
    go false h = no (sym (blank-stores v) ∙ ap (line_stores v) (sym (get_or-eq_default ls [] (ltb-false n (length ls) h))) ∙ e)

-- `store_first`, arm by arm: f is the row of the first use, p its place
module _ (v : ℕ) (s : List ℕ) (f p : ℕ) (x : f ≡ use_row v (lines_of s)) (y : lines_of (drop p s) ≡ drop f (lines_of s)) (bs ss : List ℕ) (k : ℕ) where
  first-is : stores_at v (lines_of s) bs ss k (use_row v (lines_of s)) ≡ line_stores v (get_or (lines_of s) f []) && (eqb (get_or bs (k + (f + 1)) 0) (get_or bs k 0) && eqb (get_or ss (k + (f + 1)) 0) 1)
  unfolding stores_at
  first-is = rw (← x, add-one f)

  pub first-none : length s ≤ p → false ≡ stores_at v (lines_of s) bs ss k (use_row v (lines_of s))
  first-none h = sym (first-is ∙ rw (ap (line_stores v) (get_none (lines_of s) f (sym y ∙ lines_end s p h)) ∙ blank-stores v))

  module _ (h : p < length s) (e : ℕ) (q : e ≡ p + up_to 10 (drop p s)) (l : List ℕ) (z : l ≡ part p e s) where
    here : drop f (lines_of s) ≡ l ∷ lines_of (drop (min (e + 1) (length s)) s)
    here = sym y ∙ lines-at s p e h q ∙ rw (← z)

    pub first-lt : f < length (lines_of s)
    first-lt = some-lt (lines_of s) f l _ here

    by-line : (b : Bool) → b ≡ line_stores v l → stores_at v (lines_of s) bs ss k (use_row v (lines_of s)) ≡ b && (eqb (get_or bs (k + (f + 1)) 0) (get_or bs k 0) && eqb (get_or ss (k + (f + 1)) 0) 1)
    by-line b w = first-is ∙ rw (ap (line_stores v) (get-some (lines_of s) f l _ here) ∙ sym w)

    pub first-other : (b : Bool) → b ≡ line_stores v l → b ≡ false → false ≡ stores_at v (lines_of s) bs ss k (use_row v (lines_of s))
    first-other b w g = sym (by-line b w ∙ rw g)

    pub first_block : (b : Bool) → b ≡ line_stores v l → (get_or bs (k + (f + 1)) 0 ≡ get_or bs k 0 → ⊥) → false ≡ stores_at v (lines_of s) bs ss k (use_row v (lines_of s))
    first_block b w n = sym (by-line b w ∙ rw (ne_eqb _ _ n) (and-false b))

    pub first_store : (b : Bool) → b ≡ line_stores v l → b ≡ true → get_or bs (k + (f + 1)) 0 ≡ get_or bs k 0 → eqb (get_or ss (k + (f + 1)) 0) 1 ≡ stores_at v (lines_of s) bs ss k (use_row v (lines_of s))
    first_store b w g n = sym (by-line b w ∙ rw (g, eq-eqb _ _ n))
