-- Laws of the loops over tables of moves and codes. Assumes nothing.
use Prim.Native.Nat.{ℕ, zero, suc, ◌+◌, ◌-◌, ◌≤◌, ◌<◌}
use mathlib.Core.Path.{◌≡◌, refl, sym, ap, subst, ◌∙◌}
use mathlib.Core.Bool.{Bool, true, false, cond}
use mathlib.Core.List.{List, [], ◌∷◌, ◌++◌, append_assoc, append-nil}
use native.Mathlib.Omega.{arith}
use native.Mathlib.Nat.{zero-add}
use borrow.Author.Tests.{eq-eqb, ne_eqb, lt-ltb, le-ltb}
use lib.Dec.{eqb}
use Rattle.std.proofs.Common.{◌==◌}
use Rattle.std.specs.Prelude.{count_by}
use Rattle.std.proofs.lemmas.List.Recursion.{is_count_by}
use lib.ListN.{length, take, drop, get_or, set, length-append, length-take, length-drop, drop_of_length-le}
use lib.Seq.{drop-cons, take-length, drop-length, drop-append-add, get_or-append-add}
use Rattle.lines.specs.Inner.Out.{Wrote}
use Rattle.lines.proofs.OutLaws.{wrote-byte, wrote_as}
use Rattle.origins.specs.Inner.Codes.{far_move, note_of, half, taken_code, land_go, through, standing}

-- inside a list it is all one what stands past its end
pub in-any : (l : List ℕ) (i a b : ℕ) → i < length l → get_or l i a ≡ get_or l i b
in-any [] i a b h = absurd (omega arith)
in-any (x ∷ l) zero a b h = refl
in-any (x ∷ l) (suc i) a b h = in-any l i a b (omega arith)

-- ---- single entries

pub note-gone : (d : List ℕ) (k o p : ℕ) → k < length d → o ≡ p → Wrote d k (note_of o p ∷ []) (set d k far_move) (k + 1)
note-gone d k o p h q = wrote_as (ap (λ (x : ℕ). x ∷ []) (sym (ap (λ (b : Bool). cond b far_move 0) (eq-eqb o p q)))) (wrote-byte d k far_move h)

pub note-stays : (d : List ℕ) (k o p : ℕ) → k < length d → (o ≡ p → ⊥) → Wrote d k (note_of o p ∷ []) (set d k 0) (k + 1)
note-stays d k o p h q = wrote_as (ap (λ (x : ℕ). x ∷ []) (sym (ap (λ (b : Bool). cond b far_move 0) (ne_eqb o p q)))) (wrote-byte d k 0 h)

pub taken-low : (c : ℕ) → c < half → half + c ≡ taken_code c
unfolding taken_code
taken-low c h = rw (lt-ltb c half h)

pub taken-high : (c : ℕ) → half ≤ c → c ≡ taken_code c
unfolding taken_code
taken-high c h = rw (le-ltb c half h)

pub land-down : (below : List ℕ) (d r x : ℕ) → 0 < d → x ≡ get_or below (d - 1) far_move → r ≡ taken_code x → r ≡ taken_code (get_or (far_move ∷ below) d far_move)
land-down below zero r x h p q = absurd (omega arith)
land-down below (suc d) r x h p q = let e : suc d - 1 ≡ d = omega arith in q ∙ ap taken_code (p ∙ ap (λ (k : ℕ). get_or below k far_move) e)

-- ---- counting the lines that stand

pub standing_is_count : (m : List ℕ) → standing m ≡ count_by (λ x. x == 0) m
unfolding standing
standing_is_count m = is_count_by standing (λ x. x == 0) refl (λ x xs. grind arith) m

pub standing_here : (m : List ℕ) (i : ℕ) → i < length m → get_or m i 0 ≡ 0 → standing (drop i m) ≡ suc (standing (drop (i + 1) m))
unfolding standing
standing_here m i h q =
    let e : suc i ≡ i + 1 = omega arith in
    ap standing (drop-cons m i 0 h)
    ∙ ap (λ (b : Bool). cond b (suc (standing (drop (suc i) m))) (standing (drop (suc i) m))) (eq-eqb (get_or m i 0) 0 q)
    ∙ ap (λ (n : ℕ). suc (standing (drop n m))) e

pub standing_on : (m : List ℕ) (i : ℕ) → i < length m → (get_or m i 0 ≡ 0 → ⊥) → standing (drop i m) ≡ standing (drop (i + 1) m)
unfolding standing
standing_on m i h q =
    let e : suc i ≡ i + 1 = omega arith in
    ap standing (drop-cons m i 0 h)
    ∙ ap (λ (b : Bool). cond b (suc (standing (drop (suc i) m))) (standing (drop (suc i) m))) (ne_eqb (get_or m i 0) 0 q)
    ∙ ap (λ (n : ℕ). standing (drop n m)) e

pub standing-end : (m : List ℕ) (i : ℕ) → length m ≤ i → standing (drop i m) ≡ 0
unfolding standing
standing-end m i h = ap standing (drop_of_length-le m h)

-- ---- landing, from the last line to the first

standing-append : (xs ys : List ℕ) → standing (xs ++ ys) ≡ standing xs + standing ys
unfolding standing
standing-append [] ys = sym (zero-add (standing ys))
standing-append (x ∷ xs) ys = go (eqb x 0) (standing-append xs ys)
  where
    go : (b : Bool) → standing (xs ++ ys) ≡ standing xs + standing ys → cond b (suc (standing (xs ++ ys))) (standing (xs ++ ys)) ≡ cond b (suc (standing xs)) (standing xs) + standing ys
    go true h = omega arith
    go false h = h

take_snoc : (l : List ℕ) (k : ℕ) → k < length l → take (suc k) l ≡ take k l ++ (get_or l k 0 ∷ [])
take_snoc [] k h = absurd (omega arith)
take_snoc (x ∷ l) zero h = refl
take_snoc (x ∷ l) (suc k) h = ap (λ (r : List ℕ). x ∷ r) (take_snoc l k (omega arith))

set-seam : (xs : List ℕ) (x y : ℕ) (ys : List ℕ) → set (xs ++ x ∷ ys) (length xs) y ≡ xs ++ y ∷ ys
set-seam [] x y ys = refl
set-seam (z ∷ xs) x y ys = ap (λ (r : List ℕ). z ∷ r) (set-seam xs x y ys)

-- the lines from k on have their codes, and those above still their moves
pub record LandInv (m₀ m : List ℕ) (k s : ℕ) : Type 0 where
  pub k≤ : k ≤ length m₀
  pub above : s ≡ standing (take k m₀)
  pub are : m ≡ take k m₀ ++ land_go (drop k m₀) s

pub land-start : (m : List ℕ) (s : ℕ) → s ≡ standing m → LandInv m m (length m) s
unfolding land_go
land-start m s q = record {
  k≤ = omega arith;
  above = q ∙ ap standing (sym (take-length m));
  are = sym (ap (λ (r : List ℕ). take (length m) m ++ land_go r s) (drop-length m) ∙ append-nil (take (length m) m) ∙ take-length m);
}

pub land-end : (m₀ m : List ℕ) (k s : ℕ) → LandInv m₀ m k s → k ≤ 0 → m ≡ land_go m₀ 0
unfolding standing
land-end m₀ m zero s h q = h.are ∙ ap (land_go m₀) h.above
land-end m₀ m (suc k) s h q = absurd (omega arith)

pub land-length : (m : List ℕ) (o : ℕ) → length (land_go m o) ≡ length m
unfolding land_go
land-length [] o = refl
land-length (x ∷ m) o = go (eqb x 0) (land-length m (suc o)) (land-length m o)
  where
    go : (b : Bool) → length (land_go m (suc o)) ≡ length m → length (land_go m o) ≡ length m →
        length (cond b (o ∷ land_go m (suc o)) (taken_code (get_or (far_move ∷ land_go m o) x far_move) ∷ land_go m o)) ≡ suc (length m)
    go true p q = ap suc p
    go false p q = ap suc q

pub land-long : {m₀ m : List ℕ} {k s : ℕ} → LandInv m₀ m k s → length m ≡ length m₀
land-long {m₀ = m₀} {k = k} {s = s} h =
    ap length h.are ∙ omega (arith, length-append (take k m₀) (land_go (drop k m₀) s), land-length (drop k m₀) s, length-take k m₀, length-drop k m₀, h.k≤)

-- what line k becomes, by its move
land-here : (m₀ : List ℕ) (k s : ℕ) → k < length m₀ → eqb (get_or m₀ k 0) 0 ≡ true → land_go (drop k m₀) s ≡ s ∷ land_go (drop (suc k) m₀) (suc s)
unfolding land_go
land-here m₀ k s h e = ap (λ (r : List ℕ). land_go r s) (drop-cons m₀ k 0 h) ∙ rw e

land-there : (m₀ : List ℕ) (k s : ℕ) → k < length m₀ → eqb (get_or m₀ k 0) 0 ≡ false → land_go (drop k m₀) s ≡ taken_code (get_or (far_move ∷ land_go (drop (suc k) m₀) s) (get_or m₀ k 0) far_move) ∷ land_go (drop (suc k) m₀) s
unfolding land_go
land-there m₀ k s h e = ap (λ (r : List ℕ). land_go r s) (drop-cons m₀ k 0 h) ∙ rw e

module _ {m₀ m : List ℕ} {k s : ℕ} (h : LandInv m₀ m (suc k) s) where
  -- the move of line k
  abbrev d : ℕ
  d = get_or m₀ k 0

  in-k : k < length m₀
  in-k = omega (arith, h.k≤)

  front : length (take k m₀) ≡ k
  front = omega (arith, length-take k m₀, h.k≤)

  -- the table around line k
  around : m ≡ take k m₀ ++ (d ∷ land_go (drop (suc k) m₀) s)
  around = h.are ∙ ap (λ (r : List ℕ). r ++ land_go (drop (suc k) m₀) s) (take_snoc m₀ k in-k) ∙ append_assoc (take k m₀) (d ∷ []) (land_go (drop (suc k) m₀) s)

  move-is : get_or m k 0 ≡ d
  move-is = ap (λ (r : List ℕ). get_or r k 0) around ∙ ap (λ (n : ℕ). get_or (take k m₀ ++ (d ∷ land_go (drop (suc k) m₀) s)) n 0) n-is ∙ get_or-append-add (take k m₀) (d ∷ land_go (drop (suc k) m₀) s) 0 0
    where
      n-is : k ≡ length (take k m₀) + 0
      n-is = omega (arith, front)

  below-is : drop (k + 1) m ≡ land_go (drop (suc k) m₀) s
  below-is =
      let q : k + 1 ≡ length (take k m₀) + 1 = omega (arith, front) in
      ap (λ (r : List ℕ). drop (k + 1) r) around ∙ ap (λ (n : ℕ). drop n (take k m₀ ++ (d ∷ land_go (drop (suc k) m₀) s))) q ∙ drop-append-add (take k m₀) (d ∷ land_go (drop (suc k) m₀) s) 1

  -- how many stand above
  stand-is : s ≡ standing (take k m₀) + cond (eqb d 0) 1 0
  unfolding standing
  stand-is = h.above ∙ ap standing (take_snoc m₀ k in-k) ∙ standing-append (take k m₀) (d ∷ [])

  pub land-some : get_or m k 0 ≡ 0 → 0 < s
  land-some q = let e : eqb d 0 ≡ true = eq-eqb d 0 (sym move-is ∙ q) in omega (arith, stand-is ∙ ap (λ (b : Bool). standing (take k m₀) + cond b 1 0) e)

  set_is : (c : ℕ) → set m k c ≡ take k m₀ ++ (c ∷ land_go (drop (suc k) m₀) s)
  set_is c = ap (λ (r : List ℕ). set r k c) around ∙ ap (λ (n : ℕ). set (take k m₀ ++ (d ∷ land_go (drop (suc k) m₀) s)) n c) (sym front) ∙ set-seam (take k m₀) d c (land_go (drop (suc k) m₀) s)

  pub land-on : (m' : List ℕ) (r : ℕ) → r ≡ cond (eqb (get_or m k 0) 0) (s - 1) s →
      m' ≡ set m k (cond (eqb (get_or m k 0) 0) (s - 1) (taken_code (get_or (far_move ∷ drop (k + 1) m) (get_or m k 0) far_move))) → LandInv m₀ m' k r
  land-on m' r p q = go (eqb d 0) refl
    where
      code : ℕ
      code = cond (eqb (get_or m k 0) 0) (s - 1) (taken_code (get_or (far_move ∷ drop (k + 1) m) (get_or m k 0) far_move))

      code_is : (b : Bool) → eqb d 0 ≡ b → cond (eqb (get_or m k 0) 0) (s - 1) (taken_code (get_or (far_move ∷ drop (k + 1) m) (get_or m k 0) far_move)) ≡ cond b (s - 1) (taken_code (get_or (far_move ∷ land_go (drop (suc k) m₀) s) d far_move))
      code_is b e = rw (move-is, below-is, e)

      r-is : (b : Bool) → eqb d 0 ≡ b → r ≡ cond b (s - 1) s
      r-is b e = p ∙ rw (move-is, e)

      s-is : (b : Bool) → eqb d 0 ≡ b → s ≡ standing (take k m₀) + cond b 1 0
      s-is b e = stand-is ∙ ap (λ (x : Bool). standing (take k m₀) + cond x 1 0) e

      go : (b : Bool) → eqb d 0 ≡ b → LandInv m₀ m' k r
      go true e =
          let t = r-is true e in
          let u = s-is true e in
          let n : suc r ≡ s = omega arith in
          record {
            k≤ = omega (arith, h.k≤);
            above = omega arith;
            are =
                q ∙ set_is _ ∙ ap (λ (c : ℕ). take k m₀ ++ (c ∷ land_go (drop (suc k) m₀) s)) (code_is true e ∙ sym t)
                ∙ ap (λ (x : ℕ). take k m₀ ++ (r ∷ land_go (drop (suc k) m₀) x)) (sym n)
                ∙ ap (λ (l : List ℕ). take k m₀ ++ l) (sym (land-here m₀ k r in-k e));
          }
      go false e =
          let t : r ≡ s = r-is false e in
          let u = s-is false e in
          record {
            k≤ = omega (arith, h.k≤);
            above = omega arith;
            are =
                q ∙ set_is _ ∙ ap (λ (c : ℕ). take k m₀ ++ (c ∷ land_go (drop (suc k) m₀) s)) (code_is false e)
                ∙ ap (λ (l : List ℕ). take k m₀ ++ l) (sym (land-there m₀ k s in-k e))
                ∙ ap (λ (x : ℕ). take k m₀ ++ land_go (drop k m₀) x) (sym t);
          }

-- ---- going on through a table

pub through-length : (xs gs : List ℕ) → length (through xs gs) ≡ length xs
unfolding through
through-length [] gs = refl
through-length (x ∷ xs) gs = ap suc (through-length xs gs)

-- ---- one line of a table

pub line-stands : (m : List ℕ) (k s : ℕ) (x : ℕ) → get_or m k 0 ≡ 0 →
    (s - 1 ≡ cond (eqb (get_or m k 0) 0) (s - 1) s) × (set m k (s - 1) ≡ set m k (cond (eqb (get_or m k 0) 0) (s - 1) x))
line-stands m k s x q = let e = eq-eqb (get_or m k 0) 0 q in (sym (ap (λ (b : Bool). cond b (s - 1) s) e), sym (ap (λ (b : Bool). set m k (cond b (s - 1) x)) e))

pub line-goes : (m : List ℕ) (k s r x : ℕ) → (get_or m k 0 ≡ 0 → ⊥) → r ≡ x →
    (s ≡ cond (eqb (get_or m k 0) 0) (s - 1) s) × (set m k r ≡ set m k (cond (eqb (get_or m k 0) 0) (s - 1) x))
line-goes m k s r x q p =
    let e = ne_eqb (get_or m k 0) 0 q in
    (sym (ap (λ (b : Bool). cond b (s - 1) s) e), ap (set m k) p ∙ sym (ap (λ (b : Bool). set m k (cond b (s - 1) x)) e))

-- the same, by the place after the line
less_one : (k : ℕ) → suc k - 1 ≡ k
less_one k = omega arith

pub land-some-at : (m₀ m : List ℕ) (k s : ℕ) → LandInv m₀ m k s → 0 < k → get_or m (k - 1) 0 ≡ 0 → 0 < s
land-some-at m₀ m zero s h q z = absurd (omega arith)
land-some-at m₀ m (suc k) s h q z = land-some h (ap (λ (n : ℕ). get_or m n 0) (sym (less_one k)) ∙ z)

pub land-on-at : (m₀ m : List ℕ) (k s : ℕ) → LandInv m₀ m k s → 0 < k → (m' : List ℕ) (r : ℕ) → r ≡ cond (eqb (get_or m (k - 1) 0) 0) (s - 1) s →
    m' ≡ set m (k - 1) (cond (eqb (get_or m (k - 1) 0) 0) (s - 1) (taken_code (get_or (far_move ∷ drop (k - 1 + 1) m) (get_or m (k - 1) 0) far_move))) → LandInv m₀ m' (k - 1) r
land-on-at m₀ m zero s h q m' r = absurd (omega arith)
land-on-at m₀ m (suc k) s h q m' r =
    subst (λ (n : ℕ). r ≡ cond (eqb (get_or m n 0) 0) (s - 1) s → m' ≡ set m n (cond (eqb (get_or m n 0) 0) (s - 1) (taken_code (get_or (far_move ∷ drop (n + 1) m) (get_or m n 0) far_move))) → LandInv m₀ m' n r)
    (sym (less_one k)) (land-on h m' r)

-- the part of a list from a place on
pub rest_all : (n : ℕ) (m : List ℕ) → take (length m - n) (drop n m) ≡ drop n m
rest_all n m = ap (λ (j : ℕ). take j (drop n m)) (sym (length-drop n m)) ∙ take-length (drop n m)

pub line-down : (m : List ℕ) (k r x : ℕ) → r ≡ taken_code (get_or (far_move ∷ take (length m - (k + 1)) (drop (k + 1) m)) x far_move) → r ≡ taken_code (get_or (far_move ∷ drop (k + 1) m) x far_move)
line-down m k r x h = h ∙ ap (λ (l : List ℕ). taken_code (get_or (far_move ∷ l) x far_move)) (rest_all (k + 1) m)
