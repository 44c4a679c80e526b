-- `inside_loop` by two numbers: the outermost loop's block is the last of the loops to be closed. Assumes nothing.
use Prim.Native.Nat.{ℕ, zero, suc, ◌+◌, ◌-◌, ◌≤◌, ◌<◌, min}
use mathlib.Core.Path.{◌≡◌, refl, sym, ap, ◌∙◌}
use mathlib.Core.Bool.{Bool, true, false, cond, not, ◌&&◌, ◌||◌}
use mathlib.Core.List.{List, [], ◌∷◌}
use native.Mathlib.Omega.{arith}
use borrow.Author.Tests.{eq-eqb, ne_eqb, eqb-true, lt-ltb, le-ltb}
use lib.ListN.{length, set, drop, length-drop}
use lib.Dec.{eqb, ltb}
use Rattle.lines.specs.Lf.{part, up_to, count_of, ends_in, lines_of}
use Rattle.lines.proofs.LfLaws.{lines-at, lines_end}
use Rattle.lines.proofs.OutLaws.{Writing, writing_start, writing-as, writing-room, writing-length}
use Rattle.text.specs.Trim.{trim_of}
use Rattle.place.specs.declared.Nest.{Nest}
use Rattle.place.specs.Loops.{opens_loop, any_loop, loops_after, loops_go, inside_loop}
use Rattle.place.specs.Inner.Loops.{nest, nest_open, nest_close, nest_line}
use Rattle.place.specs.Inner.Fill.{Filled, flags_of}
use Rattle.place.proofs.Fills.{entry-on, entry-end, flags-length}

-- how many blocks were open when the outermost loop's was opened
unfoldable pub outer_of : List Bool → ℕ
outer_of [] = 0
outer_of (b ∷ s) = cond (eqb (outer_of s) 0 && b) (suc (length s)) (outer_of s)

-- one of the open blocks is a loop's exactly if there is an outermost one
pub any-outer : (s : List Bool) → any_loop s ≡ not (eqb (outer_of s) 0)
unfolding any_loop outer_of
any-outer [] = refl
any-outer (b ∷ s) = ap (λ (x : Bool). b || x) (any-outer s) ∙ go b (eqb (outer_of s) 0) refl
  where
    go : (b t : Bool) → eqb (outer_of s) 0 ≡ t → b || not t ≡ not (eqb (cond (t && b) (suc (length s)) (outer_of s)) 0)
    go true true e = ap not (sym (ne_eqb (suc (length s)) 0 (λ z. omega arith)))
    go false true e = ap not (sym e)
    go true false e = ap not (sym e)
    go false false e = ap not (sym e)

outer-le : (s : List Bool) → outer_of s ≤ length s
unfolding outer_of
outer-le [] = omega arith
outer-le (b ∷ s) = go (eqb (outer_of s) 0 && b) (outer-le s)
  where
    go : (t : Bool) → outer_of s ≤ length s → cond t (suc (length s)) (outer_of s) ≤ suc (length s)
    go true h = omega arith
    go false h = omega arith

none : (b : Bool) → ◌≡◌ {A = ℕ} (cond b 0 0) 0
none true = refl
none false = refl

-- closing blocks
outer-drop : (k : ℕ) (s : List Bool) → outer_of (drop k s) ≡ cond (ltb (length s - k) (outer_of s)) 0 (outer_of s)
unfolding outer_of
outer-drop zero s = let h = outer-le s in rw (le-ltb (length s - 0) (outer_of s) (omega arith))
outer-drop (suc k) [] = sym (none (ltb (0 - suc k) 0))
outer-drop (suc k) (b ∷ s) =
    let z : suc (length s) - suc k ≡ length s - k = omega arith in
    outer-drop k s ∙ rw z (go (eqb (outer_of s) 0) refl b)
  where
    go : (t : Bool) → eqb (outer_of s) 0 ≡ t → (b : Bool) → cond (ltb (length s - k) (outer_of s)) 0 (outer_of s)
        ≡ cond (ltb (length s - k) (cond (t && b) (suc (length s)) (outer_of s))) 0 (cond (t && b) (suc (length s)) (outer_of s))
    go true e true = rw (eqb-true (outer_of s) 0 e, lt-ltb (length s - k) (suc (length s)) (omega arith)) (none (ltb (length s - k) 0))
    go true e false = refl
    go false e b = refl

-- ---- the numbers go with the stack

open-nest : (t : List ℕ) (s : List Bool) → nest_open t (length s) (outer_of s) ≡ nest (length (cond (ends_in 123 t) (opens_loop t ∷ s) s)) (outer_of (cond (ends_in 123 t) (opens_loop t ∷ s) s))
unfolding nest_open outer_of
open-nest t s = go (ends_in 123 t)
  where
    go : (b : Bool) → cond b (nest (suc (length s)) (cond (eqb (outer_of s) 0 && opens_loop t) (suc (length s)) (outer_of s))) (nest (length s) (outer_of s))
        ≡ nest (length (cond b (opens_loop t ∷ s) s)) (outer_of (cond b (opens_loop t ∷ s) s))
    go true = refl
    go false = refl

close-nest : (k : ℕ) (s : List Bool) → nest_close k (length s) (outer_of s) ≡ nest (length (drop k s)) (outer_of (drop k s))
unfolding nest_close
close-nest k s = rw (length-drop k s, outer-drop k s)

line-nest : (t : List ℕ) (s : List Bool) → nest_line t (length s) (outer_of s) ≡ nest (length (loops_after t s)) (outer_of (loops_after t s))
unfolding nest_line loops_after
line-nest t s = ap (λ (m : Nest). nest_close (count_of 125 t) m.depth m.outer) (open-nest t s) ∙ close-nest (count_of 125 t) (cond (ends_in 123 t) (opens_loop t ∷ s) s)

depth_le : (t : List ℕ) (d o : ℕ) → (nest_line t d o).depth ≤ suc d
unfolding nest_line nest_close nest_open
depth_le t d o = go (ends_in 123 t)
  where
    go : (b : Bool) → (cond b (nest (suc d) (cond (eqb o 0 && opens_loop t) (suc d) o)) (nest d o)).depth - count_of 125 t ≤ suc d
    go true = omega arith
    go false = omega arith

-- ---- the functions of a line

module _ (t : List ℕ) (d o : ℕ) where
  pub nest-same : ends_in 123 t ≡ false → nest d o ≡ nest_open t d o
  unfolding nest_open
  nest-same e = rw e

  module _ (e : ends_in 123 t ≡ true) where
    pub nest-inner : (o ≡ 0 → ⊥) → nest (d + 1) o ≡ nest_open t d o
    unfolding nest_open
    nest-inner n = let z : d + 1 ≡ suc d = omega arith in rw (e, z, ne_eqb o 0 n)

    pub nest-outer : o ≡ 0 → opens_loop t ≡ true → nest (d + 1) (d + 1) ≡ nest_open t d o
    unfolding nest_open
    nest-outer q f = let z : d + 1 ≡ suc d = omega arith in rw (e, z, eq-eqb o 0 q, f)

    pub nest-plain : o ≡ 0 → opens_loop t ≡ false → nest (d + 1) 0 ≡ nest_open t d o
    unfolding nest_open
    nest-plain q f = let z : d + 1 ≡ suc d = omega arith in rw (e, z, eq-eqb o 0 q, f, q)

module _ (k d o : ℕ) where
  pub close-all : d < k → nest 0 0 ≡ nest_close k d o
  unfolding nest_close
  close-all h = let z : d - k ≡ 0 = omega arith in rw z (ap (nest 0) (sym (go o)))
    where
      go : (m : ℕ) → cond (ltb 0 m) 0 m ≡ 0
      go zero = refl
      go (suc m) = rw (lt-ltb 0 (suc m) (omega arith))

  pub close-loop : d - k < o → nest (d - k) 0 ≡ nest_close k d o
  unfolding nest_close
  close-loop h = rw (lt-ltb (d - k) o h)

  pub close-some : o ≤ d - k → nest (d - k) o ≡ nest_close k d o
  unfolding nest_close
  close-some h = rw (le-ltb (d - k) o h)

-- ---- the loop

pub record LoopsInv (t f₀ f : List ℕ) (i k d o : ℕ) : Type 0 where
  pub i≤ : i ≤ length t
  pub d≤ : d ≤ i
  pub stack : List Bool
  pub is-depth : d ≡ length stack
  pub is-outer : o ≡ outer_of stack
  pub table : Writing 0 (flags_of (inside_loop (lines_of t))) (flags_of (loops_go (lines_of (drop i t)) stack)) f₀ f k

loops-count : (ls : List (List ℕ)) (s : List Bool) → length (loops_go ls s) ≡ length ls
unfolding loops_go
loops-count [] s = refl
loops-count (l ∷ ls) s = ap suc (loops-count ls (loops_after (trim_of l) s))

pub length-loops : (ls : List (List ℕ)) → length (inside_loop ls) ≡ length ls
unfolding inside_loop
length-loops ls = loops-count ls []

pub loops-start : (t f : List ℕ) → length (lines_of t) ≤ length f → LoopsInv t f f 0 0 0 0
unfolding inside_loop outer_of
loops-start t f h = record {
  i≤ = omega arith;
  d≤ = omega arith;
  stack = [];
  is-depth = refl;
  is-outer = refl;
  table = writing_start 0 (flags_of (inside_loop (lines_of t))) f (omega (arith, flags-length (inside_loop (lines_of t)), length-loops (lines_of t)));
}

module _ {t f₀ f : List ℕ} {i k d o : ℕ} (h : LoopsInv t f₀ f i k d o) where
  pub loops-length : length f ≡ length f₀
  loops-length = writing-length h.table

  module _ (q : i < length t) (e : ℕ) (z : e ≡ i + up_to 10 (drop i t)) where
    on-flags : flags_of (loops_go (lines_of (drop i t)) h.stack)
        ≡ cond (not (eqb o 0)) 1 0 ∷ flags_of (loops_go (lines_of (drop (min (e + 1) (length t)) t)) (loops_after (trim_of (part i e t)) h.stack))
    unfolding loops_go flags_of
    on-flags =
        ap (λ (ls : List (List ℕ)). flags_of (loops_go ls h.stack)) (lines-at t i e q z)
        ∙ ap (λ (b : Bool). cond b 1 0 ∷ flags_of (loops_go (lines_of (drop (min (e + 1) (length t)) t)) (loops_after (trim_of (part i e t)) h.stack)))
        (any-outer h.stack ∙ ap (λ (m : ℕ). not (eqb m 0)) (sym h.is-outer))

    pub loops-place : k < length f
    loops-place = let p = writing-room (writing-as on-flags h.table) in omega arith

    pub loops-on : (x : Nest) (b j : ℕ) → b ≡ cond (not (eqb o 0)) 1 0 → x ≡ nest_line (trim_of (part i e t)) d o → j ≡ min (e + 1) (length t) →
        LoopsInv t f₀ (set f k b) j (k + 1) x.depth x.outer
    loops-on x b j y w v =
        let s : List Bool = loops_after (trim_of (part i e t)) h.stack in
        let m : x ≡ nest (length s) (outer_of s) =
        w ∙ ap (λ (a : ℕ). nest_line (trim_of (part i e t)) a o) h.is-depth ∙ ap (nest_line (trim_of (part i e t)) (length h.stack)) h.is-outer
        ∙ line-nest (trim_of (part i e t)) h.stack in
        let g = h.d≤ in
        let a = depth_le (trim_of (part i e t)) d o in
        let c : x.depth ≡ (nest_line (trim_of (part i e t)) d o).depth = ap (λ (n : Nest). n.depth) w in
        record {
          i≤ = omega arith;
          d≤ = omega arith;
          stack = s;
          is-depth = ap (λ (n : Nest). n.depth) m;
          is-outer = ap (λ (n : Nest). n.outer) m;
          table = entry-on b (writing-as (on-flags
              ∙ ap (λ (n : ℕ). n ∷ flags_of (loops_go (lines_of (drop (min (e + 1) (length t)) t)) s)) (sym y)
              ∙ ap (λ (n : ℕ). b ∷ flags_of (loops_go (lines_of (drop n t)) s)) (sym v)) h.table);
        }

  pub loops-done : length t ≤ i → Filled f₀ (flags_of (inside_loop (lines_of t))) f k
  unfolding loops_go flags_of
  loops-done q = entry-end (ap (λ (ls : List (List ℕ)). flags_of (loops_go ls h.stack)) (lines_end t i q)) h.table
