-- Laws of the regions of lines: from the first line on, and from the last. Assumes nothing.
use Prim.Native.Nat.{ℕ, zero, suc, ◌+◌, ◌-◌, ◌≤◌, ◌<◌}
use mathlib.Core.Path.{◌≡◌, refl, sym, ap, subst, ◌∙◌}
use mathlib.Core.Bool.{Bool, true, false, cond}
use mathlib.Core.List.{List, [], ◌∷◌}
use native.Mathlib.Omega.{arith}
use borrow.Author.Tests.{ltb-true, ltb-false}
use lib.Dec.{ltb}
use lib.ListN.{length, drop}
use Rattle.place.specs.Region.{is_header, until_header, region, region_at}
use Rattle.reading.specs.Uses.{line_reads}
use Rattle.once.specs.Once.{read_count}
use Rattle.once.specs.Inner.Noted.{far_from, area_of}
use Rattle.decls.specs.Inner.Firsts.{first_by, read_below, head_from}
use Rattle.decls.proofs.SeenLaws.{first-le}

-- ---- from the first line on: run is the region of the line above the one with k above it

abbrev pub AreaInv : List (List ℕ) → ℕ → List (List ℕ) → Type 0
AreaInv ls k run = (j : ℕ) → area_of run (drop k ls) j ≡ area_of (region ls) ls (k + j)

pub area-first : (ls : List (List ℕ)) → AreaInv ls 0 (region ls)
area-first ls = λ j. let q : 0 + j ≡ j = omega arith in ap (area_of (region ls) ls) (sym q)

module _ (ls : List (List ℕ)) (k : ℕ) (run : List (List ℕ)) (h : AreaInv ls k run) (l : List ℕ) (us : List (List ℕ)) (p : drop k ls ≡ l ∷ us) where
  pub area-next : drop (k + 1) ls ≡ us → AreaInv ls (k + 1) (region_at l us run)
  unfolding area_of
  area-next q = λ j.
      let z : k + suc j ≡ k + 1 + j = omega arith in
      ap (λ (t : List (List ℕ)). area_of (region_at l us run) t j) q
      ∙ ap (λ (t : List (List ℕ)). area_of run t (suc j)) (sym p)
      ∙ h (suc j) ∙ ap (area_of (region ls) ls) z

  pub area-here : region_at l us run ≡ area_of (region ls) ls k
  unfolding area_of
  area-here = let z : k + 0 ≡ k = omega arith in ap (λ (t : List (List ℕ)). area_of run t 0) (sym p) ∙ h 0 ∙ ap (area_of (region ls) ls) z

-- ---- from the last line on

-- a line with no header down to it is in the region of the line above all
area-open : (run us : List (List ℕ)) (j : ℕ) → j < length us → head_from us < length us - j → area_of run us j ≡ run
unfolding area_of first_by region_at
area-open run [] j k h = refl
area-open run (l ∷ us) zero k h = go (is_header l) h
  where
    go : (b : Bool) → cond b (suc (length us)) (head_from us) < suc (length us) - 0 → cond b (l ∷ until_header us) run ≡ run
    go true z = absurd (omega arith)
    go false z = refl
area-open run (l ∷ us) (suc j) k h = go (λ z. area-open run us j (omega arith) z) (is_header l) h
  where
    go : (head_from us < length us - j → area_of run us j ≡ run) → (b : Bool) → cond b (suc (length us)) (head_from us) < suc (length us) - suc j → area_of (cond b (l ∷ until_header us) run) us j ≡ run
    go f true z = absurd (omega arith)
    go f false z = f (omega arith)

-- with one it is in another
area-closed : (run run' us : List (List ℕ)) (j : ℕ) → j < length us → length us - j ≤ head_from us → area_of run us j ≡ area_of run' us j
unfolding area_of first_by region_at
area-closed run run' [] j k h = absurd (omega arith)
area-closed run run' (l ∷ us) zero k h = go (is_header l) (first-le (λ (l : List ℕ). is_header l) us) h
  where
    go : (b : Bool) → head_from us ≤ length us → suc (length us) - 0 ≤ cond b (suc (length us)) (head_from us) → cond b (l ∷ until_header us) run ≡ cond b (l ∷ until_header us) run'
    go true y z = refl
    go false y z = absurd (omega arith)
area-closed run run' (l ∷ us) (suc j) k h = go (λ z. area-closed run run' us j (omega arith) z) (is_header l) h
  where
    go : (length us - j ≤ head_from us → area_of run us j ≡ area_of run' us j) → (b : Bool) → suc (length us) - suc j ≤ cond b (suc (length us)) (head_from us) →
        area_of (cond b (l ∷ until_header us) run) us j ≡ area_of (cond b (l ∷ until_header us) run') us j
    go f true z = refl
    go f false z = f (omega arith)

-- a header opens that of the lines down to the next
area-head : (run : List (List ℕ)) (l : List ℕ) (us : List (List ℕ)) (r : ℕ) → is_header l ≡ true → r ≤ length us → head_from us < suc r → area_of run (l ∷ us) (suc (length us) - suc r) ≡ l ∷ until_header us
unfolding area_of region_at
area-head run l us r e h k = go (ltb r (length us)) refl
  where
    go : (b : Bool) → ltb r (length us) ≡ b → area_of run (l ∷ us) (suc (length us) - suc r) ≡ l ∷ until_header us
    go true z =
        let y = ltb-true r (length us) z in
        let q : suc (length us) - suc r ≡ suc (length us - suc r) = omega arith in
        ap (area_of run (l ∷ us)) q
        ∙ ap (λ (b : Bool). area_of (cond b (l ∷ until_header us) run) us (length us - suc r)) e
        ∙ area-open (l ∷ until_header us) us (length us - suc r) (omega arith) (omega arith)
    go false z =
        let y = ltb-false r (length us) z in
        let q : suc (length us) - suc r ≡ 0 = omega arith in
        ap (area_of run (l ∷ us)) q ∙ ap (λ (b : Bool). cond b (l ∷ until_header us) run) e

-- ---- how often a region reads a register

unread : (v : ℕ) (us : List (List ℕ)) → read_below v us ≤ head_from us → read_count v (until_header us) ≡ 0
unfolding first_by read_count until_header
unread v [] h = refl
unread v (l ∷ us) h = go (λ z. unread v us z) (is_header l) (ltb 0 (line_reads v l)) refl (first-le (λ (l : List ℕ). is_header l) us) h
  where
    go : (read_below v us ≤ head_from us → read_count v (until_header us) ≡ 0) → (a b : Bool) → ltb 0 (line_reads v l) ≡ b → head_from us ≤ length us → cond b (suc (length us)) (read_below v us) ≤ cond a (suc (length us)) (head_from us) →
        read_count v (cond a [] (l ∷ until_header us)) ≡ 0
    go f true b x y z = refl
    go f false true x y z = absurd (omega arith)
    go f false false x y z = let n = ltb-false 0 (line_reads v l) x in let q = f z in omega arith

pub read_some : (v : ℕ) (us : List (List ℕ)) → head_from us < read_below v us → 1 ≤ read_count v (until_header us)
unfolding first_by read_count until_header
read_some v [] h = absurd (omega arith)
read_some v (l ∷ us) h = go (λ z. read_some v us z) (is_header l) (ltb 0 (line_reads v l)) refl (first-le (λ (l : List ℕ). ltb 0 (line_reads v l)) us) h
  where
    go : (head_from us < read_below v us → 1 ≤ read_count v (until_header us)) → (a b : Bool) → ltb 0 (line_reads v l) ≡ b → read_below v us ≤ length us → cond a (suc (length us)) (head_from us) < cond b (suc (length us)) (read_below v us) →
        1 ≤ read_count v (cond a [] (l ∷ until_header us))
    go f true true x y z = absurd (omega arith)
    go f true false x y z = absurd (omega arith)
    go f false true x y z = let n = ltb-true 0 (line_reads v l) x in omega arith
    go f false false x y z = let q = f z in omega arith

-- where the first line reads it: once where no line of the region does again, else more than once
pub next-count : (v : ℕ) (us : List (List ℕ)) → head_from us < length us → read_below v us ≡ length us →
    (far_from v us ≤ head_from us → read_count v (until_header us) ≡ 1) × (head_from us < far_from v us → 2 ≤ read_count v (until_header us))
unfolding first_by read_count until_header far_from
next-count v [] h k = absurd (omega arith)
next-count v (e ∷ us) h k =
    go (is_header e) (ltb 0 (line_reads v e)) refl (ltb 1 (line_reads v e)) refl (first-le (λ (l : List ℕ). is_header l) us) (first-le (λ (l : List ℕ). ltb 0 (line_reads v l)) us) h k
  where
    go : (a b : Bool) → ltb 0 (line_reads v e) ≡ b → (c : Bool) → ltb 1 (line_reads v e) ≡ c → head_from us ≤ length us → read_below v us ≤ length us → cond a (suc (length us)) (head_from us) < suc (length us) →
        cond b (suc (length us)) (read_below v us) ≡ suc (length us) →
        (cond b (cond c (suc (length us)) (read_below v us)) (far_from v us) ≤ cond a (suc (length us)) (head_from us) → read_count v (cond a [] (e ∷ until_header us)) ≡ 1)
        × (cond a (suc (length us)) (head_from us) < cond b (cond c (suc (length us)) (read_below v us)) (far_from v us) → 2 ≤ read_count v (cond a [] (e ∷ until_header us)))
    go true b x c y i j h k = absurd (omega arith)
    go false false x c y i j h k = absurd (omega arith)
    go false true x true y i j h k = let m = ltb-true 1 (line_reads v e) y in (λ q. absurd (omega arith), λ q. omega arith)
    go false true x false y i j h k =
        let n = ltb-true 0 (line_reads v e) x in
        let m = ltb-false 1 (line_reads v e) y in
        (λ q. let z = unread v us q in omega arith, λ q. let z = read_some v us q in omega arith)

-- ---- so of the region of the line just above the one with the number r, where us are the lines from some line on: all of it, or what us has of
-- it, has a count of which P holds

pub data CountUp (P : ℕ → Type 0) (v r : ℕ) (us : List (List ℕ)) : Type 0 where
  upward : head_from us < r → P (read_count v (until_header us)) → CountUp P v r us
  whole : suc r ≤ head_from us → P (read_count v (area_of (until_header us) us (length us - suc r))) → CountUp P v r us

module _ (P : ℕ → Type 0) (v r : ℕ) where
  -- one line more, where the region goes on
  pub up-new : (l : List ℕ) (us : List (List ℕ)) → r ≤ length us → head_from us < r → P (line_reads v l + read_count v (until_header us)) → CountUp P v r (l ∷ us)
  unfolding first_by read_count until_header area_of region_at
  up-new l us n a c = go (is_header l) refl
    where
      go : (t : Bool) → is_header l ≡ t → CountUp P v r (l ∷ us)
      go true e =
          whole (let z : suc r ≤ suc (length us) = omega arith in rw e z)
          (subst (λ (run : List (List ℕ)). P (read_count v run)) (sym (area-head (until_header (l ∷ us)) l us r e n (omega arith))) c)
      go false e = upward (rw e a) (rw e c)

  -- one line more
  pub up-on : (l : List ℕ) (us : List (List ℕ)) → r ≤ length us → (head_from us < r → P (read_count v (until_header us)) → P (line_reads v l + read_count v (until_header us))) →
      CountUp P v r us → CountUp P v r (l ∷ us)
  unfolding first_by until_header area_of region_at
  up-on l us n f (upward a c) = up-new l us n a (f a c)
  up-on l us n f (whole a c) =
      let h = first-le (λ (l : List ℕ). is_header l) us in
      let q : suc (length us) - suc r ≡ suc (length us - suc r) = omega arith in
      whole (go (is_header l))
      (subst (λ (run : List (List ℕ)). P (read_count v run))
      (sym
      (ap (λ (j : ℕ). area_of (until_header (l ∷ us)) (l ∷ us) j) q
      ∙ area-closed (region_at l us (until_header (l ∷ us))) (until_header us) us (length us - suc r) (omega arith) (omega arith)))
      c)
    where
      go : (t : Bool) → suc r ≤ cond t (suc (length us)) (head_from us)
      go true = omega arith
      go false = a

  -- at the first line
  pub up_done : (ls : List (List ℕ)) → r < length ls → CountUp P v r ls → P (read_count v (area_of (region ls) ls (length ls - suc r)))
  unfolding first_by until_header region
  up_done [] h u = absurd (omega arith)
  up_done (l ∷ us) h (upward a c) =
      subst (λ (run : List (List ℕ)). P (read_count v run)) (sym (area-open (region (l ∷ us)) (l ∷ us) (suc (length us) - suc r) (omega arith) (omega arith))) (go (is_header l) a c)
    where
      go : (t : Bool) → cond t (suc (length us)) (head_from us) < r → P (read_count v (cond t [] (l ∷ until_header us))) → P (read_count v (l ∷ until_header us))
      go true x y = absurd (omega arith)
      go false x y = y
  up_done (l ∷ us) h (whole a c) =
      subst (λ (run : List (List ℕ)). P (read_count v run)) (sym (area-closed (region (l ∷ us)) (until_header (l ∷ us)) (l ∷ us) (suc (length us) - suc r) (omega arith) (omega arith))) c
