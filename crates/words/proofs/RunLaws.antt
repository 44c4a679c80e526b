-- Laws of runs: where they begin and end, what a walk over them gives, and how many pass a test. Assumes nothing.
use Prim.Native.Nat.{ℕ, suc, ◌+◌, ◌-◌, ◌^◌, ◌≤◌, ◌<◌}
use mathlib.Core.Path.{◌≡◌, refl, sym, ap, ◌∙◌}
use mathlib.Core.Bool.{Bool, true, false, cond, not, ◌&&◌}
use mathlib.Core.List.{List, [], ◌∷◌, ◌++◌, append_assoc, append-nil}
use native.Mathlib.Numerals.{add-one}
use native.Mathlib.Omega.{arith}
use borrow.Author.Tests.{le-ltb, lt-ltb, eq-eqb, eqb-true}
use lib.Dec.{eqb}
use lib.ListN.{length, take, drop, get_or, length-append, length-drop, drop_of_length-le}
use lib.Seq.{drop-cons, drop-drop, length-take-le}
use Rattle.lines.specs.Lf.{part, same}
use Rattle.lines.proofs.Tests.{no}
use Rattle.text.specs.Class.{is_name}
use Rattle.names.specs.Names.{reg_of, reg_is, reg_text}
use Rattle.names.proofs.Texts.{reg-first, reg-text-is}
use Rattle.words.specs.Runs.{flush, runs_go, runs, count_by, reads_of}
use Rattle.words.specs.Inner.Runs.{words_of, up_by, gap_len, run_len, reg_gap, after_name, walk_runs, place_by, run_hits_from, run_hits, NextRun}

-- ---- the first byte that passes a test

module _ (f : ℕ → Bool) where
  pub up_le : (l : List ℕ) → up_by f l ≤ length l
  unfolding up_by
  up_le [] = omega arith
  up_le (x ∷ xs) = go (f x) (up_le xs)
    where
      go : (t : Bool) → up_by f xs ≤ length xs → cond t 0 (suc (up_by f xs)) ≤ suc (length xs)
      go true h = omega arith
      go false h = omega arith

  first : (x : ℕ) (xs : List ℕ) (t : Bool) → f x ≡ t → up_by f (x ∷ xs) ≡ cond t 0 (suc (up_by f xs))
  unfolding up_by
  first x xs t e = rw e

  pub up_done : (l : List ℕ) → up_by f (drop (up_by f l) l) ≡ 0
  unfolding up_by
  up_done [] = refl
  up_done (x ∷ xs) = go (f x) refl (up_done xs)
    where
      go : (t : Bool) → f x ≡ t → up_by f (drop (up_by f xs) xs) ≡ 0 → up_by f (drop (cond t 0 (suc (up_by f xs))) (x ∷ xs)) ≡ 0
      go true e h = rw e
      go false e h = h

module _ (f : ℕ → Bool) (s : List ℕ) (j : ℕ) where
  pub up-here : j < length s → f (get_or s j 0) ≡ true → up_by f (drop j s) ≡ 0
  up-here h e = rw (drop-cons s j 0 h) (first f _ _ true e)

  pub up-on : j < length s → f (get_or s j 0) ≡ false → up_by f (drop j s) ≡ suc (up_by f (drop (j + 1) s))
  up-on h e = rw (add-one j, drop-cons s j 0 h) (first f _ _ false e)

  pub up-end : length s ≤ j → up_by f (drop j s) ≡ 0
  unfolding up_by
  up-end h = rw (drop_of_length-le s h)

-- ---- a walk over the runs: past a gap, and past a run

module _ {A : Type 0} (give : ℕ → List ℕ → List A) (none : (i : ℕ) → give i [] ≡ []) where
  pub walk-off : (x : ℕ) (xs : List ℕ) (i : ℕ) → is_name x ≡ false → walk_runs give (x ∷ xs) i [] ≡ walk_runs give xs (suc i) []
  unfolding walk_runs
  walk-off x xs i e = rw (e, none i)

  walk-gap : (l : List ℕ) (i : ℕ) → walk_runs give (drop (gap_len l) l) (i + gap_len l) [] ≡ walk_runs give l i []
  unfolding up_by
  walk-gap [] i = let q : i + 0 ≡ i = omega arith in ap (λ (n : ℕ). walk_runs give [] n []) q
  walk-gap (x ∷ xs) i = go (is_name x) refl (walk-gap xs (suc i))
    where
      go : (t : Bool) → is_name x ≡ t → walk_runs give (drop (gap_len xs) xs) (suc i + gap_len xs) [] ≡ walk_runs give xs (suc i) [] →
          walk_runs give (drop (cond t 0 (suc (gap_len xs))) (x ∷ xs)) (i + cond t 0 (suc (gap_len xs))) [] ≡ walk_runs give (x ∷ xs) i []
      go true e h = let q : i + 0 ≡ i = omega arith in ap (λ (n : ℕ). walk_runs give (x ∷ xs) n []) q
      go false e h = let q : i + suc (gap_len xs) ≡ suc i + gap_len xs = omega arith in ap (λ (n : ℕ). walk_runs give (drop (gap_len xs) xs) n []) q ∙ h ∙ sym (walk-off x xs i e)

  pub walk-run : (l : List ℕ) (i : ℕ) (cur : List ℕ) → walk_runs give l i cur ≡ give (i + run_len l) (cur ++ take (run_len l) l) ++ walk_runs give (drop (run_len l) l) (i + run_len l) []
  unfolding walk_runs up_by
  walk-run [] i cur = let q : i + 0 ≡ i = omega arith in rw (q, append-nil cur, none i) (sym (append-nil (give i cur)))
  walk-run (x ∷ xs) i cur = go (is_name x) refl (walk-run xs (suc i) (cur ++ (x ∷ [])))
    where
      go : (t : Bool) → is_name x ≡ t →
          walk_runs give xs (suc i) (cur ++ (x ∷ [])) ≡ give (suc i + run_len xs) ((cur ++ (x ∷ [])) ++ take (run_len xs) xs) ++ walk_runs give (drop (run_len xs) xs) (suc i + run_len xs) [] →
          cond t (walk_runs give xs (suc i) (cur ++ (x ∷ []))) (give i cur ++ walk_runs give xs (suc i) [])
          ≡ give (i + cond (not t) 0 (suc (run_len xs))) (cur ++ take (cond (not t) 0 (suc (run_len xs))) (x ∷ xs)) ++ walk_runs give (drop (cond (not t) 0 (suc (run_len xs))) (x ∷ xs)) (i + cond (not t) 0 (suc (run_len xs))) []
      go true e h =
          let q : suc i + run_len xs ≡ i + suc (run_len xs) = omega arith in
          h ∙ ap (λ (l : List ℕ). give (suc i + run_len xs) l ++ walk_runs give (drop (run_len xs) xs) (suc i + run_len xs) []) (append_assoc cur (x ∷ []) (take (run_len xs) xs))
          ∙ ap (λ (n : ℕ). give n (cur ++ (x ∷ take (run_len xs) xs)) ++ walk_runs give (drop (run_len xs) xs) n []) q
      go false e h = let q : i + 0 ≡ i = omega arith in rw (q, append-nil cur, e, none i)

  module _ (s : List ℕ) (i : ℕ) where
    pub walk-skip : (j : ℕ) → j ≡ i + gap_len (drop i s) → walk_runs give (drop j s) j [] ≡ walk_runs give (drop i s) i []
    walk-skip j q =
        ap (λ (n : ℕ). walk_runs give (drop n s) n []) q
        ∙ ap (λ (l : List ℕ). walk_runs give l (i + gap_len (drop i s)) []) (sym (drop-drop (gap_len (drop i s)) i s)) ∙ walk-gap (drop i s) i

    pub walk-next : (e : ℕ) → e ≡ i + run_len (drop i s) → walk_runs give (drop i s) i [] ≡ give e (part i e s) ++ walk_runs give (drop e s) e []
    walk-next e q =
        let k : ℕ = run_len (drop i s) in
        let d : k ≡ e - i = omega arith in
        walk-run (drop i s) i []
        ∙ ap (λ (l : List ℕ). give (i + k) (take k (drop i s)) ++ walk_runs give l (i + k) []) (drop-drop k i s)
        ∙ ap (λ (n : ℕ). give n (take k (drop i s)) ++ walk_runs give (drop n s) n []) (sym q)
        ∙ ap (λ (n : ℕ). give e (take n (drop i s)) ++ walk_runs give (drop e s) e []) d

-- ---- where a run stands

pub begins : (l : List ℕ) → 0 < length l → gap_len l ≡ 0 → 0 < run_len l
unfolding up_by
begins [] h g = h
begins (x ∷ xs) h g = go (is_name x) g
  where
    go : (t : Bool) → cond t 0 (suc (gap_len xs)) ≡ 0 → 0 < cond (not t) 0 (suc (run_len xs))
    go true g = omega arith
    go false g = omega arith

module _ (s : List ℕ) (i : ℕ) where
  pub run-some : i < length s → gap_len (drop i s) ≡ 0 → 0 < run_len (drop i s)
  run-some h g = begins (drop i s) (omega (arith, length-drop i s)) g

  pub run_inside : i ≤ length s → i + run_len (drop i s) ≤ length s
  run_inside h = omega (arith, up_le (λ (x : ℕ). not (is_name x)) (drop i s), length-drop i s)

  pub gap-inside : i ≤ length s → i + gap_len (drop i s) ≤ length s
  gap-inside h = omega (arith, up_le (λ (x : ℕ). is_name x) (drop i s), length-drop i s)

  pub gap-done : (j : ℕ) → j ≡ i + gap_len (drop i s) → gap_len (drop j s) ≡ 0
  gap-done j q =
      ap (λ (n : ℕ). gap_len (drop n s)) q ∙ ap (λ (l : List ℕ). gap_len l) (sym (drop-drop (gap_len (drop i s)) i s)) ∙ up_done (λ (x : ℕ). is_name x) (drop i s)

  pub run_length : (e : ℕ) → i ≤ length s → e ≡ i + run_len (drop i s) → length (part i e s) ≡ e - i
  run_length e h q = length-take-le (e - i) (drop i s) (omega (arith, run_inside h, length-drop i s))

-- ---- how many runs pass a test

runs-walk : (l : List ℕ) (i : ℕ) (cur : List ℕ) → walk_runs (λ (e : ℕ) (c : List ℕ). flush c) l i cur ≡ runs_go l cur
unfolding walk_runs runs_go
runs-walk [] i cur = refl
runs-walk (x ∷ xs) i cur =
    ap (λ (l : List (List ℕ)). cond (is_name x) l (flush cur ++ walk_runs (λ (e : ℕ) (c : List ℕ). flush c) xs (suc i) [])) (runs-walk xs (suc i) (cur ++ (x ∷ [])))
    ∙ ap (λ (l : List (List ℕ)). cond (is_name x) (runs_go xs (cur ++ (x ∷ []))) (flush cur ++ l)) (runs-walk xs (suc i) [])

runs-from : (l : List ℕ) (i : ℕ) → runs l ≡ walk_runs (λ (e : ℕ) (c : List ℕ). flush c) l i []
unfolding runs
runs-from l i = sym (runs-walk l i [])

module _ (f : List ℕ → Bool) where
  pub count-append : (xs ys : List (List ℕ)) → count_by f (xs ++ ys) ≡ count_by f xs + count_by f ys
  unfolding count_by
  count-append [] ys = omega arith
  count-append (r ∷ xs) ys = go (f r) (count-append xs ys)
    where
      go : (t : Bool) → count_by f (xs ++ ys) ≡ count_by f xs + count_by f ys →
          cond t (suc (count_by f (xs ++ ys))) (count_by f (xs ++ ys)) ≡ cond t (suc (count_by f xs)) (count_by f xs) + count_by f ys
      go true h = omega arith
      go false h = omega arith

  count-flush : (r : List ℕ) → 0 < length r → count_by f (flush r) ≡ cond (f r) 1 0
  unfolding count_by
  count-flush [] h = absurd (omega arith)
  count-flush (x ∷ r) h = refl

  count_none : count_by f (runs []) ≡ 0
  unfolding count_by runs
  count_none = refl

-- of two tests, the one that more runs pass
pub count-le : (f g : List ℕ → Bool) → ((r : List ℕ) → f r ≡ true → g r ≡ true) → (rs : List (List ℕ)) → count_by f rs ≤ count_by g rs
unfolding count_by
count-le f g t [] = omega arith
count-le f g t (r ∷ rs) = go (f r) refl (g r) refl (count-le f g t rs)
  where
    go : (a : Bool) → f r ≡ a → (b : Bool) → g r ≡ b → count_by f rs ≤ count_by g rs → cond a (suc (count_by f rs)) (count_by f rs) ≤ cond b (suc (count_by g rs)) (count_by g rs)
    go true p true q h = omega arith
    go true p false q h = no (sym q ∙ t r p)
    go false p true q h = omega arith
    go false p false q h = h

-- every run that is the register as it is printed reads it
pub words-reads : (v : ℕ) (l : List ℕ) → v < 2 ^ 64 → words_of (reg_text v) l ≤ reads_of v l
words-reads v l h = count-le (λ (r : List ℕ). same r (reg_text v)) (λ (r : List ℕ). reg_is v (reg_of r)) (λ r e. reg-text-is r v h e) (runs l)

-- ---- the loop that counts: n runs before the run at i pass

pub record CountInv (f : List ℕ → Bool) (s : List ℕ) (n i : ℕ) : Type 0 where
  pub i≤ : i ≤ length s
  pub n≤ : n ≤ i
  pub stands : gap_len (drop i s) ≡ 0
  pub so_far : n + count_by f (runs (drop i s)) ≡ count_by f (runs s)

module _ (f : List ℕ → Bool) (s : List ℕ) where
  count-skip : (i j : ℕ) → j ≡ i + gap_len (drop i s) → count_by f (runs (drop j s)) ≡ count_by f (runs (drop i s))
  count-skip i j q = ap (count_by f) (runs-from (drop j s) j ∙ walk-skip (λ (e : ℕ) (c : List ℕ). flush c) (λ (e : ℕ). refl) s i j q ∙ sym (runs-from (drop i s) i))

  pub count-start : (i : ℕ) → i ≡ 0 + gap_len (drop 0 s) → CountInv f s 0 i
  count-start i q = record {
    i≤ = omega (arith, gap-inside s 0 (omega arith));
    n≤ = omega arith;
    stands = gap-done s 0 i q;
    so_far = let z = count-skip 0 i q in omega arith;
  }

  module _ {n i : ℕ} (h : CountInv f s n i) (l : i < length s) (e : ℕ) (p : e ≡ i + run_len (drop i s)) where
    count-run : count_by f (runs (drop i s)) ≡ cond (f (part i e s)) 1 0 + count_by f (runs (drop e s))
    count-run =
        let k = run-some s i l h.stands in
        let n = run_length s i e h.i≤ p in
        let g = count-flush f (part i e s) (omega arith) in
        let w = ap (count_by f) (runs-from (drop i s) i ∙ walk-next (λ (e : ℕ) (c : List ℕ). flush c) (λ (e : ℕ). refl) s i e p ∙ ap (λ (r : List (List ℕ)). flush (part i e s) ++ r) (sym (runs-from (drop e s) e))) in
        omega (arith, w, g, count-append f (flush (part i e s)) (runs (drop e s)))

    -- w is the run, t whether it passes, and m what is added
    module _ (w : List ℕ) (x : w ≡ part i e s) (t : Bool) (y : t ≡ f w) (m : ℕ) (z : m ≡ cond t 1 0) where
      adds : m ≡ cond (f (part i e s)) 1 0
      adds = z ∙ ap (λ (b : Bool). cond b 1 0) (y ∙ ap f x)

      pub count_small : m ≤ 1
      count_small = go t z
        where
          go : (b : Bool) → m ≡ cond b 1 0 → m ≤ 1
          go true q = omega arith
          go false q = omega arith

      module _ (j : ℕ) (q : j ≡ e + gap_len (drop e s)) where
        pub count_less : i < j
        count_less = omega (arith, run-some s i l h.stands)

        pub count_next : CountInv f s (n + m) j
        count_next = record {
          i≤ = omega (arith, gap-inside s e (omega (arith, run_inside s i h.i≤)));
          n≤ = omega (arith, run-some s i l h.stands, count_small, h.n≤);
          stands = gap-done s e j q;
          so_far = omega (arith, count-skip e j q, count-run, h.so_far, adds);
        }

  pub count-end : {n i : ℕ} → CountInv f s n i → length s ≤ i → n ≡ count_by f (runs s)
  count-end {n} {i} h l =
      let d : drop i s ≡ [] = drop_of_length-le s l in
      omega (arith, h.so_far, ap (λ (r : List ℕ). count_by f (runs r)) d, count_none f)

-- ---- on to the next run that begins with `r`, where the others give nothing

module _ {A : Type 0} (give : ℕ → List ℕ → List A) (none : (i : ℕ) → give i [] ≡ []) (other : (e x : ℕ) (c : List ℕ) → eqb x 114 ≡ false → give e (x ∷ c) ≡ []) where
  -- with no run open, and with one open that begins with another byte
  abbrev Regs : List ℕ → Type 0
  Regs l = ((i : ℕ) → walk_runs give l i [] ≡ walk_runs give (drop (reg_gap false l) l) (i + reg_gap false l) [])
      × ((i x : ℕ) (c : List ℕ) → eqb x 114 ≡ false → walk_runs give l i (x ∷ c) ≡ walk_runs give (drop (reg_gap true l) l) (i + reg_gap true l) [])

  gap_at : (p : Bool) (y : ℕ) (l : List ℕ) (n t : Bool) → is_name y ≡ n → eqb y 114 ≡ t → reg_gap p (y ∷ l) ≡ cond (t && not p) 0 (suc (reg_gap n l))
  unfolding reg_gap
  gap_at p y l n t e q = rw (e, q)

  past : (p : Bool) (y : ℕ) (l : List ℕ) (i g : ℕ) → reg_gap p (y ∷ l) ≡ suc g → walk_runs give (drop (reg_gap p (y ∷ l)) (y ∷ l)) (i + reg_gap p (y ∷ l)) [] ≡ walk_runs give (drop g l) (suc i + g) []
  past p y l i g e = let z : i + suc g ≡ suc i + g = omega arith in rw e (ap (λ (n : ℕ). walk_runs give (drop g l) n []) z)

  regs-on : (y : ℕ) (l : List ℕ) → Regs l → (n : Bool) → is_name y ≡ n → (t : Bool) → eqb y 114 ≡ t → Regs (y ∷ l)
  unfolding walk_runs
  regs-on y l (f, g) true e true q = (
    λ i. let z : i ≡ i + 0 = omega arith in rw (gap_at false y l true true e q) (ap (λ (n : ℕ). walk_runs give (y ∷ l) n []) z),
    λ i x c h. rw e (g (suc i) x (c ++ (y ∷ [])) h) ∙ sym (past true y l i (reg_gap true l) (gap_at true y l true true e q)),
  )
  regs-on y l (f, g) true e false q = (
    λ i. rw e (g (suc i) y [] q) ∙ sym (past false y l i (reg_gap true l) (gap_at false y l true false e q)),
    λ i x c h. rw e (g (suc i) x (c ++ (y ∷ [])) h) ∙ sym (past true y l i (reg_gap true l) (gap_at true y l true false e q)),
  )
  regs-on y l (f, g) false e true q = (λ i. no (sym e ∙ ap (λ (n : ℕ). is_name n) (eqb-true y 114 q)), λ i x c h. no (sym e ∙ ap (λ (n : ℕ). is_name n) (eqb-true y 114 q)))
  regs-on y l (f, g) false e false q = (
    λ i. rw (e, none i) (f (suc i)) ∙ sym (past false y l i (reg_gap false l) (gap_at false y l false false e q)),
    λ i x c h. rw (e, other i x c h) (f (suc i)) ∙ sym (past true y l i (reg_gap false l) (gap_at true y l false false e q)),
  )

  regs : (l : List ℕ) → Regs l
  unfolding walk_runs reg_gap
  regs [] = (λ i. none i ∙ sym (none (i + 0)), λ i x c e. other i x c e ∙ sym (none (i + 0)))
  regs (y ∷ l) = regs-on y l (regs l) (is_name y) refl (eqb y 114) refl

  pub walk-regs : (s : List ℕ) (i j : ℕ) → j ≡ i + reg_gap false (drop i s) → walk_runs give (drop i s) i [] ≡ walk_runs give (drop j s) j []
  walk-regs s i j q =
      (regs (drop i s)).0 i
      ∙ ap (λ (r : List ℕ). walk_runs give r (i + reg_gap false (drop i s)) []) (drop-drop (reg_gap false (drop i s)) i s)
      ∙ ap (λ (n : ℕ). walk_runs give (drop n s) n []) (sym q)

-- such a run stands there, or nothing
reg-done : (p : Bool) (l : List ℕ) → gap_len (drop (reg_gap p l) l) ≡ 0
unfolding reg_gap up_by
reg-done p [] = refl
reg-done p (x ∷ l) = go (eqb x 114) refl p (reg-done (is_name x) l)
  where
    go : (t : Bool) → eqb x 114 ≡ t → (p : Bool) → gap_len (drop (reg_gap (is_name x) l) l) ≡ 0 → gap_len (drop (cond (t && not p) 0 (suc (reg_gap (is_name x) l))) (x ∷ l)) ≡ 0
    go true e false h = rw (ap (λ (n : ℕ). is_name n) (eqb-true x 114 e))
    go true e true h = h
    go false e p h = h

pub reg-stands : (s : List ℕ) (i j : ℕ) → j ≡ i + reg_gap false (drop i s) → gap_len (drop j s) ≡ 0
reg-stands s i j q = ap (λ (n : ℕ). gap_len (drop n s)) q ∙ ap (λ (r : List ℕ). gap_len r) (sym (drop-drop (reg_gap false (drop i s)) i s)) ∙ reg-done false (drop i s)

-- the search for it: no name byte stands before the place i
module _ (s : List ℕ) (i j : ℕ) (h : i ≤ j) (l : j < length s) where
  at_reg : (t : Bool) → (eqb (get_or s j 0) 114 && not (after_name i j s)) ≡ t → reg_gap (after_name i j s) (drop j s) ≡ cond t 0 (suc (reg_gap (is_name (get_or s j 0)) (drop (suc j) s)))
  unfolding reg_gap
  at_reg t e = ap (reg_gap (after_name i j s)) (drop-cons s j 0 l) ∙ rw e

  pub reg-here : (eqb (get_or s j 0) 114 && not (after_name i j s)) ≡ true → reg_gap (after_name i j s) (drop j s) ≡ 0
  reg-here e = at_reg true e

  pub reg-on : (eqb (get_or s j 0) 114 && not (after_name i j s)) ≡ false → reg_gap (after_name i j s) (drop j s) ≡ suc (reg_gap (after_name i (j + 1) s) (drop (j + 1) s))
  reg-on e =
      let a : j + 1 ≡ suc j = omega arith in
      let b : j + 1 - 1 ≡ j = omega arith in
      at_reg false e
      ∙ sym (ap (λ (n : ℕ). suc (reg_gap (after_name i (j + 1) s) (drop n s))) a ∙ ap (λ (t : Bool). suc (reg_gap (t && is_name (get_or s (j + 1 - 1) 0)) (drop (suc j) s))) (lt-ltb i (j + 1) (omega arith)) ∙ ap (λ (n : ℕ). suc (reg_gap (is_name (get_or s n 0)) (drop (suc j) s))) b)

pub reg-none : (p : Bool) (s : List ℕ) (j : ℕ) → length s ≤ j → reg_gap p (drop j s) ≡ 0
unfolding reg_gap
reg-none p s j h = ap (reg_gap p) (drop_of_length-le s h)

-- ---- the loop that looks for a run that passes: it has come to the run at j

pub record NextInv (f : List ℕ → Bool) (s : List ℕ) (i j : ℕ) : Type 0 where
  pub stands : gap_len (drop j s) ≡ 0
  pub so_far : run_hits_from f s i ≡ run_hits_from f s j

-- what a run gives
pub place-run : (f : List ℕ → Bool) (e : ℕ) (w : List ℕ) → 0 < length w → place_by f e w ≡ cond (f w) ((e - length w) ∷ []) []
place-run f e [] h = absurd (omega arith)
place-run f e (x ∷ w) h = refl

-- runs that begin with another byte do not pass
module _ (f : List ℕ → Bool) (skips : (x : ℕ) (c : List ℕ) → eqb x 114 ≡ false → f (x ∷ c) ≡ false) (s : List ℕ) (i : ℕ) where
  next-skip : (e k : ℕ) → k ≡ e + reg_gap false (drop e s) → run_hits_from f s e ≡ run_hits_from f s k
  next-skip e k q = walk-regs (place_by f) (λ (e : ℕ). refl) (λ e x c t. rw (skips x c t)) s e k q

  pub next_start : (j : ℕ) → j ≡ i + reg_gap false (drop i s) → NextInv f s i j
  next_start j q = record { stands = reg-stands s i j q; so_far = next-skip i j q }

  module _ {j : ℕ} (h : NextInv f s i j) (l : j < length s) (e : ℕ) (p : e ≡ j + run_len (drop j s)) where
    hits-run : run_hits_from f s i ≡ cond (f (part j e s)) (j ∷ []) [] ++ run_hits_from f s e
    hits-run =
        let k = run-some s j l h.stands in
        let b : j ≤ length s = omega arith in
        let n = run_length s j e b p in
        let d : e - length (part j e s) ≡ j = omega arith in
        h.so_far ∙ walk-next (place_by f) (λ (e : ℕ). refl) s j e p
        ∙ ap (λ (r : List ℕ). r ++ run_hits_from f s e) (place-run f e (part j e s) (omega arith) ∙ ap (λ (n : ℕ). cond (f (part j e s)) (n ∷ []) []) d)

    pub next-less : (k : ℕ) → k ≡ e + reg_gap false (drop e s) → j < k
    next-less k q = omega (arith, run-some s j l h.stands)

    pub next-on : (k : ℕ) → f (part j e s) ≡ false → k ≡ e + reg_gap false (drop e s) → NextInv f s i k
    next-on k t q = record { stands = reg-stands s e k q; so_far = hits-run ∙ rw t (next-skip e k q) }

    pub next-found : f (part j e s) ≡ true → NextRun f s i j
    next-found t = record {
      passes = λ _. ap (λ (n : ℕ). f (part j n s)) (sym p) ∙ t;
      hits = hits-run ∙ rw (t, lt-ltb j (length s) l) (ap (λ (n : ℕ). j ∷ run_hits_from f s n) p);
    }

  pub next-end : {j : ℕ} → NextInv f s i j → length s ≤ j → NextRun f s i j
  unfolding walk_runs
  next-end {j} h l = record {
    passes = λ k. absurd (omega arith);
    hits = h.so_far ∙ rw (drop_of_length-le s l, le-ltb j (length s) l);
  }

-- ---- the places and the number of the runs that pass

place-count : (f : List ℕ → Bool) (e : ℕ) (cur : List ℕ) → length (place_by f e cur) ≡ count_by f (flush cur)
unfolding count_by
place-count f e [] = refl
place-count f e (x ∷ cur) = go (f (x ∷ cur))
  where
    go : (t : Bool) → length (cond t ((e - length (x ∷ cur)) ∷ []) []) ≡ cond t 1 0
    go true = refl
    go false = refl

walk-count : (f : List ℕ → Bool) (l : List ℕ) (i : ℕ) (cur : List ℕ) → length (walk_runs (place_by f) l i cur) ≡ count_by f (runs_go l cur)
unfolding walk_runs runs_go
walk-count f [] i cur = place-count f i cur
walk-count f (x ∷ xs) i cur = go (is_name x) (walk-count f xs (suc i) (cur ++ (x ∷ []))) (walk-count f xs (suc i) [])
  where
    go : (t : Bool) → length (walk_runs (place_by f) xs (suc i) (cur ++ (x ∷ []))) ≡ count_by f (runs_go xs (cur ++ (x ∷ []))) →
        length (walk_runs (place_by f) xs (suc i) []) ≡ count_by f (runs_go xs []) →
        length (cond t (walk_runs (place_by f) xs (suc i) (cur ++ (x ∷ []))) (place_by f i cur ++ walk_runs (place_by f) xs (suc i) []))
        ≡ count_by f (cond t (runs_go xs (cur ++ (x ∷ []))) (flush cur ++ runs_go xs []))
    go true p q = p
    go false p q = omega (arith, length-append (place_by f i cur) (walk_runs (place_by f) xs (suc i) []), count-append f (flush cur) (runs_go xs []), place-count f i cur)

pub hits-count : (f : List ℕ → Bool) (l : List ℕ) → length (run_hits f l) ≡ count_by f (runs l)
unfolding run_hits runs
hits-count f l = walk-count f l 0 []

-- ---- the loop that counts goes by the runs that begin with `r`, where no other passes

reg-le : (p : Bool) (l : List ℕ) → reg_gap p l ≤ length l
unfolding reg_gap
reg-le p [] = omega arith
reg-le p (x ∷ l) = go (eqb x 114 && not p) (reg-le (is_name x) l)
  where
    go : (t : Bool) → reg_gap (is_name x) l ≤ length l → cond t 0 (suc (reg_gap (is_name x) l)) ≤ suc (length l)
    go true h = omega arith
    go false h = omega arith

reg-inside : (s : List ℕ) (e j : ℕ) → e ≤ length s → j ≡ e + reg_gap false (drop e s) → j ≤ length s
reg-inside s e j h q = omega (arith, reg-le false (drop e s), length-drop e s)

module _ (f : List ℕ → Bool) (skips : (x : ℕ) (c : List ℕ) → eqb x 114 ≡ false → f (x ∷ c) ≡ false) (s : List ℕ) where
  regs-skip : (e j : ℕ) → j ≡ e + reg_gap false (drop e s) → count_by f (runs (drop j s)) ≡ count_by f (runs (drop e s))
  unfolding runs
  regs-skip e j q = sym (walk-count f (drop j s) j []) ∙ ap length (sym (next-skip f skips s e e j q)) ∙ walk-count f (drop e s) e []

  pub regs-start : (i : ℕ) → i ≡ 0 + reg_gap false (drop 0 s) → CountInv f s 0 i
  regs-start i q = record {
    i≤ = reg-inside s 0 i (omega arith) q;
    n≤ = omega arith;
    stands = reg-stands s 0 i q;
    so_far = let z = regs-skip 0 i q in omega arith;
  }

  module _ {n i : ℕ} (h : CountInv f s n i) (l : i < length s) (e : ℕ) (p : e ≡ i + run_len (drop i s)) (w : List ℕ) (x : w ≡ part i e s) (t : Bool) (y : t ≡ f w) (m : ℕ) (z : m ≡ cond t 1 0) (j : ℕ) (q : j ≡ e + reg_gap false (drop e s)) where
    pub regs-less : i < j
    regs-less = omega (arith, run-some s i l h.stands)

    pub regs-next : CountInv f s (n + m) j
    regs-next = record {
      i≤ = reg-inside s e j (omega (arith, run_inside s i h.i≤)) q;
      n≤ = omega (arith, run-some s i l h.stands, count_small f s h l e p w x t y m z, h.n≤);
      stands = reg-stands s e j q;
      so_far = omega (arith, regs-skip e j q, count-run f s h l e p, h.so_far, adds f s h l e p w x t y m z);
    }

-- a run that begins with another byte names no register
pub names-skip : (v x : ℕ) (c : List ℕ) → eqb x 114 ≡ false → reg_is v (reg_of (x ∷ c)) ≡ false
names-skip v x c e = ap (reg_is v) (reg-first (x ∷ c) (λ z. no (sym e ∙ eq-eqb x 114 z)))
