-- Laws of reading a line. Assumes nothing.
use Prim.Native.Nat.{ℕ, ◌+◌, ◌-◌, ◌≤◌, ◌<◌}
use mathlib.Core.Path.{◌≡◌, refl, sym, ap, ◌∙◌}
use mathlib.Core.Bool.{Bool, true, false, cond, not, ◌&&◌}
use mathlib.Core.List.{List, [], ◌∷◌}
use native.Mathlib.Omega.{arith}
use borrow.Author.Tests.{eq-eqb, ne_eqb, lt-ltb, le-ltb, ltb-true, ltb-false}
use lib.Dec.{eqb, ltb}
use lib.ListN.{length, take, drop, get_or, length-take, length-drop}
use Rattle.std.specs.List.{list_all}
use Rattle.text.specs.Trim.{from_of, to_of, to_end, trim_of}
use Rattle.names.specs.Names.{reg_of, is_reg}
use Rattle.std.specs.declared.option.Option.{Option}
use Rattle.names.specs.declared.Register.{Register}
use Rattle.std.specs.declared.option.Option.TheVariants.{Some, None}
use Rattle.text.proofs.Trims.{from_of-le, to_end-le, trim-part}
use Rattle.parse.specs.declared.Store.{Store}
use Rattle.parse.specs.declared.Line.{Line}
use Rattle.parse.specs.declared.Line.TheVariants as line
use Rattle.lines.specs.Lf.{part, up_to, ends_in, parts_of}
use Rattle.parse.specs.Parse.{all_regs, is_decl, store_by, split_store, store_in, parse_of}
use Rattle.lines.proofs.LfLaws.{parts_at, parts-at-end, rest_of}

-- ---- the pieces of a declaration

abbrev pub names_reg : List ℕ → Bool
names_reg p = is_reg (reg_of (trim_of p))

pub regs-all : (ps : List (List ℕ)) → list_all names_reg ps ≡ all_regs ps
unfolding all_regs
regs-all [] = refl
regs-all (p ∷ ps) = ap (λ (b : Bool). names_reg p && b) (regs-all ps)

regs-cons : (p : List ℕ) (ps : List (List ℕ)) (b : Bool) → is_reg (reg_of (trim_of p)) ≡ b → all_regs (p ∷ ps) ≡ b && all_regs ps
unfolding all_regs
regs-cons p ps b e = rw e

module _ (s : List ℕ) (i e : ℕ) (h : i ≤ length s) (q : e ≡ i + up_to 44 (drop i s)) where
  pub regs-stop : is_reg (reg_of (trim_of (part i e s))) ≡ false → all_regs (parts_of 44 (drop i s)) ≡ false
  regs-stop k = go (ltb e (length s)) refl
    where
      go : (t : Bool) → ltb e (length s) ≡ t → all_regs (parts_of 44 (drop i s)) ≡ false
      go true z = ap all_regs (parts_at 44 s i e h q (ltb-true e (length s) z)) ∙ regs-cons _ _ false k
      go false z = ap all_regs (parts-at-end 44 s i e h q (ltb-false e (length s) z)) ∙ regs-cons _ _ false k

  pub regs-last : length s ≤ e → is_reg (reg_of (trim_of (part i e s))) ≡ true → all_regs (parts_of 44 (drop i s)) ≡ true
  unfolding all_regs
  regs-last z k = ap all_regs (parts-at-end 44 s i e h q z) ∙ regs-cons _ [] true k

  pub regs-on : e < length s → is_reg (reg_of (trim_of (part i e s))) ≡ true → all_regs (parts_of 44 (drop i s)) ≡ all_regs (parts_of 44 (drop (e + 1) s))
  regs-on z k = ap all_regs (parts_at 44 s i e h q z) ∙ regs-cons _ _ true k

-- ---- a store

module _ (a : ℕ) (u : List ℕ) (k : ℕ) (q' : k ≡ 0 + up_to 61 u) where
  pub store-none : length u ≤ k → split_store a u ≡ line.Other
  store-none h = let q : k ≡ up_to 61 u = omega arith in rw (← q, le-ltb k (length u) h)

  pub store-eq : k < length u → get_or u (k + 1) 0 ≡ 61 → split_store a u ≡ line.Other
  store-eq h e = let q : k ≡ up_to 61 u = omega arith in rw (← q, lt-ltb k (length u) h, eq-eqb (get_or u (k + 1) 0) 61 e)

  pub store-reg : k < length u → (get_or u (k + 1) 0 ≡ 61 → ⊥) → (r : Option Register) → r ≡ reg_of (trim_of (take k u)) → split_store a u ≡ store_by r (a + (k + 1)) (drop (k + 1) u)
  store-reg h n r e = let q : k ≡ up_to 61 u = omega arith in rw (← q, lt-ltb k (length u) h, ne_eqb (get_or u (k + 1) 0) 61 n, ← e)

-- the bounds of what is trimmed out of a rest
pub rest_from : (u : List ℕ) (b : ℕ) → from_of (part b (length u) u) ≤ length u - b
rest_from u b = omega (arith, from_of-le (part b (length u) u), ap length (rest_of u b) ∙ length-drop b u)

pub rest-to : (u : List ℕ) (b : ℕ) → to_end (part b (length u) u) ≤ length u - b
rest-to u b = let h : to_end (part b (length u) u) ≤ length (part b (length u) u) = to_end-le (part b (length u) u) in omega (arith, ap length (rest_of u b) ∙ length-drop b u)

pub store-empty : (a : ℕ) (t : List ℕ) → length t ≡ 0 → store_in a t ≡ line.Other
unfolding store_in
store-empty a [] h = refl
store-empty a (x ∷ xs) h = absurd (omega arith)

-- ---- a line

module _ (l : List ℕ) (a e : ℕ) (p : a ≡ from_of l) (q : e ≡ to_end l) where
  pub parse-part : part a e l ≡ trim_of l
  parse-part = rw (p, q) (sym (trim-part l))

  pub parse-decl : is_decl (part a e l) ≡ true → line.Decl ≡ parse_of l
  unfolding parse_of
  parse-decl h = rw (sym (ap is_decl parse-part) ∙ h)

  pub parse-rest : is_decl (part a e l) ≡ false → (r : Line) → r ≡ store_in a (part a e l) → r ≡ parse_of l
  unfolding parse_of
  parse-rest h r g = rw (sym (ap is_decl parse-part) ∙ h) (g ∙ ap (store_in a) parse-part ∙ ap (λ (n : ℕ). store_in n (trim_of l)) p)

-- the place of a value is in its line
never : {A : Type 0} {s : Store} → line.Other ≡ line.Store s → A
never h = let z : ◌≡◌ {A = ℕ} 0 1 = cc in absurd (omega arith)

never-decl : {A : Type 0} {s : Store} → line.Decl ≡ line.Store s → A
never-decl h = let z : ◌≡◌ {A = ℕ} 0 1 = cc in absurd (omega arith)

place-by : (r : Option Register) (b : ℕ) (rhs : List ℕ) (s : Store) → store_by r b rhs ≡ line.Store s → (s.from ≤ s.to) × (s.to ≤ b + length rhs)
place-by None b rhs s h = never h
place-by (Some q) b rhs s h =
    let e : ◌≡◌ {A = Store} s (record { reg = q; from = b + from_of rhs; to = b + to_end rhs }) = cc in
    let f : s.from ≡ b + from_of rhs = ap (λ (x : Store). x.from) e in
    let t : s.to ≡ b + to_end rhs = ap (λ (x : Store). x.to) e in
    (omega arith, omega (arith, to_end-le rhs))

place-split : (a : ℕ) (u : List ℕ) (s : Store) → split_store a u ≡ line.Store s → (s.from ≤ s.to) × (s.to ≤ a + length u)
place-split a u s h = go (ltb (up_to 61 u) (length u)) (eqb (get_or u (up_to 61 u + 1) 0) 61) refl h
  where
    go : (t w : Bool) → ltb (up_to 61 u) (length u) ≡ t →
        cond (t && not w) (store_by (reg_of (trim_of (take (up_to 61 u) u))) (a + (up_to 61 u + 1)) (drop (up_to 61 u + 1) u)) line.Other ≡ line.Store s →
        (s.from ≤ s.to) × (s.to ≤ a + length u)
    go false w e g = never g
    go true true e g = never g
    go true false e g =
        let r = place-by (reg_of (trim_of (take (up_to 61 u) u))) (a + (up_to 61 u + 1)) (drop (up_to 61 u + 1) u) s g in
        let k = ltb-true (up_to 61 u) (length u) e in
        (r.0, omega (arith, r.1, length-drop (up_to 61 u + 1) u))

place_in : (a : ℕ) (t : List ℕ) (s : Store) → store_in a t ≡ line.Store s → (s.from ≤ s.to) × (s.to ≤ a + length t)
unfolding store_in
place_in a t s h = go (ends_in 59 t) h
  where
    go : (b : Bool) → cond b (split_store a (take (length t - 1) t)) line.Other ≡ line.Store s → (s.from ≤ s.to) × (s.to ≤ a + length t)
    go false g = never g
    go true g = let r = place-split a (take (length t - 1) t) s g in (r.0, omega (arith, r.1, length-take (length t - 1) t))

trim-fits : (l : List ℕ) → from_of l + length (trim_of l) ≤ length l
unfolding trim_of
trim-fits l = omega (arith, from_of-le l, length-take (to_of (drop (from_of l) l)) (drop (from_of l) l), length-drop (from_of l) l)

pub parse-place : (l : List ℕ) (s : Store) → parse_of l ≡ line.Store s → (s.from ≤ s.to) × (s.to ≤ length l)
unfolding parse_of
parse-place l s h = go (is_decl (trim_of l)) h
  where
    go : (b : Bool) → cond b line.Decl (store_in (from_of l) (trim_of l)) ≡ line.Store s → (s.from ≤ s.to) × (s.to ≤ length l)
    go true g = never-decl g
    go false g = let r = place_in (from_of l) (trim_of l) s g in (r.0, omega (arith, r.1, trim-fits l))
