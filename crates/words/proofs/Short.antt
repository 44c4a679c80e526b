-- A register below 10 is looked for by its digit: what stands before the next digit gives no hit. Assumes nothing.
use Prim.Native.Nat.{ℕ, zero, suc, ◌+◌, ◌-◌, ◌≤◌, ◌<◌}
use mathlib.Core.Path.{◌≡◌, refl, sym, ap, subst, ◌∙◌}
use mathlib.Core.Bool.{Bool, true, false, cond, not, ◌&&◌}
use mathlib.Core.List.{List, [], ◌∷◌, ◌++◌}
use native.Mathlib.Numerals.{add-one}
use native.Mathlib.Omega.{arith}
use borrow.Author.Tests.{le-leb, le-ltb, lt-ltb, eqb-true, eqb-false, ne_eqb, not-true}
use lib.Dec.{eqb}
use lib.ListN.{length, take, drop, get_or, length-drop, drop_of_length-le}
use lib.Seq.{drop-cons, get_or-drop}
use Rattle.lines.specs.Lf.{part, up_to, prefixed, same}
use Rattle.lines.proofs.Compare.{same_refl}
use Rattle.lines.proofs.LfLaws.{up_to-le, find-here, find-on}
use Rattle.lines.proofs.Tests.{no, and-false, and-true, and_left, and_right, and_both, eqb-sym}
use Rattle.text.specs.Class.{is_name}
use Rattle.names.specs.Names.{decimal, decimal_by, reg_text}
use Rattle.words.specs.Inner.Runs.{up_by, run_len, after_name, short_at, walk_runs, run_hits_from, NextRun}
use Rattle.words.specs.Hits.{hit_here, hits_go}
use Rattle.words.proofs.HitLaws.{agree, hits-any}

-- the text of a register below 10
pub short-text : (v : ℕ) → v < 10 → reg_text v ≡ 114 ∷ (48 + v) ∷ []
unfolding decimal decimal_by
short-text v h = rw (lt-ltb v 10 h)

-- no run stands where no name byte does
no_run : (l : List ℕ) → is_name (get_or l 0 0) ≡ false → run_len l ≡ 0
unfolding up_by
no_run [] e = refl
no_run (x ∷ xs) e = rw e

-- a run of two
two_run : (x y : ℕ) (l : List ℕ) → is_name x ≡ true → is_name y ≡ true → is_name (get_or l 0 0) ≡ false → run_len (x ∷ y ∷ l) ≡ 2
unfolding up_by
two_run x y l a b e = rw (a, b, no_run l e)

-- ---- the hits of `r` and a digit

module _ (d : ℕ) (low : 48 ≤ d) (high : d ≤ 57) where
  digit-name : is_name d ≡ true
  digit-name = rw (le-leb 48 d low, le-leb d 57 high)

  front : (x y : ℕ) (l : List ℕ) → prefixed (114 ∷ d ∷ []) (x ∷ y ∷ l) ≡ eqb x 114 && eqb y d
  unfolding prefixed
  front x y l = rw (eqb-sym 114 x, eqb-sym d y) (ap (λ (t : Bool). eqb x 114 && t) (and-true (eqb y d)))

  at-two : (x y : ℕ) (l : List ℕ) (m : ℕ) (b t : Bool) → prefixed (114 ∷ d ∷ []) (x ∷ y ∷ l) ≡ t →
      hits_go (x ∷ y ∷ l) (114 ∷ d ∷ []) 0 m b ≡ cond t (hit_here (114 ∷ d ∷ []) (x ∷ y ∷ l) m b ++ hits_go l (114 ∷ d ∷ []) 0 (suc (suc m)) (is_name y)) (hits_go (y ∷ l) (114 ∷ d ∷ []) 0 (suc m) (is_name x))
  unfolding hits_go
  at-two x y l m b t q = rw q

  -- no hit begins at the digit
  past-digit : (y : ℕ) (l : List ℕ) (m : ℕ) (b : Bool) → y ≡ d → hits_go (y ∷ l) (114 ∷ d ∷ []) 0 m b ≡ hits_go l (114 ∷ d ∷ []) 0 (suc m) (is_name y)
  unfolding hits_go prefixed
  past-digit y l m b q = rw (ne_eqb 114 y (λ e. omega arith))

  -- another byte than the digit follows
  two-other : (x y : ℕ) (l : List ℕ) (m : ℕ) (b : Bool) → eqb y d ≡ false → hits_go (x ∷ y ∷ l) (114 ∷ d ∷ []) 0 m b ≡ hits_go (y ∷ l) (114 ∷ d ∷ []) 0 (suc m) (is_name x)
  two-other x y l m b e = at-two x y l m b false (front x y l ∙ ap (λ (t : Bool). eqb x 114 && t) e ∙ and-false (eqb x 114))

  -- the digit follows, and the two are no run
  two-miss : (x y : ℕ) (l : List ℕ) (m : ℕ) (b : Bool) → eqb y d ≡ true → ((eqb x 114 && not b) && not (is_name (get_or l 0 0))) ≡ false →
      hits_go (x ∷ y ∷ l) (114 ∷ d ∷ []) 0 m b ≡ hits_go (y ∷ l) (114 ∷ d ∷ []) 0 (suc m) (is_name x)
  two-miss x y l m b e k = go (eqb x 114) refl b (is_name (get_or l 0 0)) refl k
    where
      go : (t : Bool) → eqb x 114 ≡ t → (b n : Bool) → is_name (get_or l 0 0) ≡ n → ((t && not b) && not n) ≡ false →
          hits_go (x ∷ y ∷ l) (114 ∷ d ∷ []) 0 m b ≡ hits_go (y ∷ l) (114 ∷ d ∷ []) 0 (suc m) (is_name x)
      go false q b n r k = at-two x y l m b false (front x y l ∙ ap (λ (t : Bool). t && eqb y d) q)
      go true q true n r k = at-two x y l m true true (front x y l ∙ and_both q e) ∙ sym (past-digit y l (suc m) (is_name x) (eqb-true y d e))
      go true q false true r k =
          at-two x y l m false true (front x y l ∙ and_both q e)
          ∙ ap (λ (t : Bool). cond t [] (m ∷ []) ++ hits_go l (114 ∷ d ∷ []) 0 (suc (suc m)) (is_name y)) r
          ∙ sym (past-digit y l (suc m) (is_name x) (eqb-true y d e))
      go true q false false r k = no (sym k)

  -- the digit follows, and the two are a run
  two-hit : (x y : ℕ) (l : List ℕ) (m : ℕ) (b : Bool) → eqb y d ≡ true → eqb x 114 ≡ true → b ≡ false → is_name (get_or l 0 0) ≡ false →
      hits_go (x ∷ y ∷ l) (114 ∷ d ∷ []) 0 m b ≡ m ∷ hits_go l (114 ∷ d ∷ []) 0 (suc (suc m)) false
  two-hit x y l m b e q z r =
      ap (hits_go (x ∷ y ∷ l) (114 ∷ d ∷ []) 0 m) z
      ∙ at-two x y l m false true (front x y l ∙ and_both q e)
      ∙ ap (λ (t : Bool). cond t [] (m ∷ []) ++ hits_go l (114 ∷ d ∷ []) 0 (suc (suc m)) (is_name y)) r
      ∙ ap (λ (n : ℕ). m ∷ hits_go l (114 ∷ d ∷ []) 0 (suc (suc m)) (is_name n)) (eqb-true y d e)
      ∙ ap (λ (t : Bool). m ∷ hits_go l (114 ∷ d ∷ []) 0 (suc (suc m)) t) digit-name
      ∙ ap (λ (k : List ℕ). m ∷ k) (hits-any (114 ∷ d ∷ []) (omega arith) (and_both refl (and_both digit-name refl)) l (suc (suc m)) (no_run l r))

  one_left : (x m : ℕ) (b : Bool) → hits_go (x ∷ []) (114 ∷ d ∷ []) 0 m b ≡ []
  unfolding hits_go prefixed
  one_left x m b = rw (and-false (eqb 114 x))

  -- ---- by places: the hits from the place m on, where the search began at i

  module _ (s : List ℕ) (i : ℕ) where
    abbrev from_on : ℕ → List ℕ
    from_on m = hits_go (drop m s) (114 ∷ d ∷ []) 0 m (after_name i m s)

    open_next : (m : ℕ) → i ≤ m → after_name i (suc m) s ≡ is_name (get_or s m 0)
    open_next m h = let b : suc m - 1 ≡ m = omega arith in rw (lt-ltb i (suc m) (omega arith)) (ap (λ (n : ℕ). is_name (get_or s n 0)) b)

    there : (m : ℕ) → suc m < length s → drop m s ≡ get_or s m 0 ∷ get_or s (suc m) 0 ∷ drop (suc (suc m)) s
    there m k = drop-cons s m 0 (omega arith) ∙ ap (λ (l : List ℕ). get_or s m 0 ∷ l) (drop-cons s (suc m) 0 k)

    step : (m : ℕ) → i ≤ m → suc m < length s →
        hits_go (get_or s m 0 ∷ get_or s (suc m) 0 ∷ drop (suc (suc m)) s) (114 ∷ d ∷ []) 0 m (after_name i m s) ≡ hits_go (get_or s (suc m) 0 ∷ drop (suc (suc m)) s) (114 ∷ d ∷ []) 0 (suc m) (is_name (get_or s m 0)) →
        from_on m ≡ from_on (suc m)
    step m h k e =
        ap (λ (l : List ℕ). hits_go l (114 ∷ d ∷ []) 0 m (after_name i m s)) (there m k) ∙ e
        ∙ ap (λ (l : List ℕ). hits_go l (114 ∷ d ∷ []) 0 (suc m) (is_name (get_or s m 0))) (sym (drop-cons s (suc m) 0 k))
        ∙ ap (λ (t : Bool). hits_go (drop (suc m) s) (114 ∷ d ∷ []) 0 (suc m) t) (sym (open_next m h))

    -- on to the next digit: n other bytes stand before it
    to-digit : (n m : ℕ) → i ≤ m → m < length s → up_to d (drop (suc m) s) ≡ n →
        (from_on m ≡ from_on (m + n)) × (suc (m + n) < length s → eqb (get_or s (suc (m + n)) 0) d ≡ true)
    to-digit zero m h k u =
        let z : m ≡ m + 0 = omega arith in
        (ap (λ (n : ℕ). from_on n) z, λ l. ap (λ (n : ℕ). eqb (get_or s (suc n) 0) d) (sym z) ∙ go (eqb (get_or s (suc m) 0) d) refl (omega arith))
      where
        go : (t : Bool) → eqb (get_or s (suc m) 0) d ≡ t → suc m < length s → t ≡ true
        go true e l = refl
        go false e l = absurd (omega (arith, find-on d s (suc m) l (eqb-false (get_or s (suc m) 0) d e)))
    to-digit (suc n) m h k u = go (eqb (get_or s (suc m) 0) d) refl (omega (arith, up_to-le d (drop (suc m) s), length-drop (suc m) s)) (λ l w. to-digit n (suc m) (omega arith) l w)
      where
        go : (t : Bool) → eqb (get_or s (suc m) 0) d ≡ t → suc m < length s →
            (suc m < length s → up_to d (drop (suc (suc m)) s) ≡ n → (from_on (suc m) ≡ from_on (suc m + n)) × (suc (suc m + n) < length s → eqb (get_or s (suc (suc m + n)) 0) d ≡ true)) →
            (from_on m ≡ from_on (m + suc n)) × (suc (m + suc n) < length s → eqb (get_or s (suc (m + suc n)) 0) d ≡ true)
        go true e l f = absurd (omega (arith, find-here d s (suc m) l (eqb-true (get_or s (suc m) 0) d e)))
        go false e l f =
            let z : suc m + n ≡ m + suc n = omega arith in
            let o = find-on d s (suc m) l (eqb-false (get_or s (suc m) 0) d e) in
            let w : up_to d (drop (suc m + 1) s) ≡ n = omega arith in
            let r = f l (ap (λ (j : ℕ). up_to d (drop j s)) (sym (add-one (suc m))) ∙ w) in (
              step m h l (two-other (get_or s m 0) (get_or s (suc m) 0) (drop (suc (suc m)) s) m (after_name i m s) e) ∙ r.0 ∙ ap (λ (j : ℕ). from_on j) z,
              λ q. ap (λ (j : ℕ). eqb (get_or s (suc j) 0) d) (sym z) ∙ r.1 (omega arith),
            )

    -- the runs that are the two are the hits of the two
    hits-from : (e : ℕ) → run_hits_from (λ (w : List ℕ). same w (114 ∷ d ∷ [])) s e ≡ hits_go (drop e s) (114 ∷ d ∷ []) 0 e false
    hits-from e = sym (agree (114 ∷ d ∷ []) (omega arith) (and_both refl (and_both digit-name refl)) (length (drop e s)) (drop e s) e (omega arith))

    hits-begin : run_hits_from (λ (w : List ℕ). same w (114 ∷ d ∷ [])) s i ≡ from_on i
    hits-begin = hits-from i ∙ ap (λ (t : Bool). hits_go (drop i s) (114 ∷ d ∷ []) 0 i (t && is_name (get_or s (i - 1) 0))) (sym (le-ltb i i (omega arith)))

-- the loop that looks for the two: it has come to the digit at j, or to the end
pub record ShortInv (d : ℕ) (s : List ℕ) (i j : ℕ) : Type 0 where
  pub i< : i < j
  pub j≤ : j ≤ length s
  pub digit : j < length s → eqb (get_or s j 0) d ≡ true
  pub so_far : run_hits_from (λ (w : List ℕ). same w (114 ∷ d ∷ [])) s i ≡ hits_go (drop (j - 1) s) (114 ∷ d ∷ []) 0 (j - 1) (after_name i (j - 1) s)

module _ (d : ℕ) (low : 48 ≤ d) (high : d ≤ 57) (s : List ℕ) (i : ℕ) where
  -- from the place m, past a byte, to the next digit
  short-to : (m j : ℕ) → i ≤ m → m < length s → j ≡ m + 1 + up_to d (drop (m + 1) s) →
      run_hits_from (λ (w : List ℕ). same w (114 ∷ d ∷ [])) s i ≡ hits_go (drop m s) (114 ∷ d ∷ []) 0 m (after_name i m s) → ShortInv d s i j
  short-to m j h l q e =
      let n : ℕ = up_to d (drop (suc m) s) in
      let u : up_to d (drop (m + 1) s) ≡ n = ap (λ (k : ℕ). up_to d (drop k s)) (add-one m) in
      let r = to-digit d low high s i n m h l refl in
      let z : suc (m + n) ≡ j = omega arith in
      let y : m + n ≡ j - 1 = omega arith in
      record {
        i< = omega arith;
        j≤ = omega (arith, up_to-le d (drop (suc m) s), length-drop (suc m) s);
        digit = λ k. ap (λ (k : ℕ). eqb (get_or s k 0) d) (sym z) ∙ r.1 (omega arith);
        so_far = e ∙ r.0 ∙ ap (λ (k : ℕ). hits_go (drop k s) (114 ∷ d ∷ []) 0 k (after_name i k s)) y;
      }

  pub short-start : (j : ℕ) → i < length s → j ≡ i + 1 + up_to d (drop (i + 1) s) → ShortInv d s i j
  short-start j l q = short-to i j (omega arith) l q (hits-begin d low high s i)

  pub short_none : length s ≤ i → NextRun (λ (w : List ℕ). same w (114 ∷ d ∷ [])) s i i
  unfolding walk_runs
  short_none l = record {
    passes = λ k. absurd (omega arith);
    hits = rw (drop_of_length-le s l, le-ltb i (length s) l);
  }

  pub short_on : {j : ℕ} → ShortInv d s i j → j < length s → short_at i j s ≡ false → (k : ℕ) → k ≡ j + 1 + up_to d (drop (j + 1) s) → ShortInv d s i k
  short_on {j = zero} h l t k q = absurd (omega (arith, h.i<))
  short_on {j = suc m} h l t k q =
      let y : suc m - 1 ≡ m = omega arith in
      let b : i ≤ m = omega (arith, h.i<) in
      let g : get_or (drop (suc (suc m)) s) 0 0 ≡ get_or s (suc m + 1) 0 = get_or-drop (suc (suc m)) s 0 0 ∙ ap (λ (n : ℕ). get_or s n 0) (omega arith) in
      let w : ((eqb (get_or s m 0) 114 && not (after_name i m s)) && not (is_name (get_or (drop (suc (suc m)) s) 0 0))) ≡ false =
      ap (λ (x : ℕ). (eqb (get_or s m 0) 114 && not (after_name i m s)) && not (is_name x)) g
      ∙ ap (λ (n : ℕ). (eqb (get_or s n 0) 114 && not (after_name i n s)) && not (is_name (get_or s (suc m + 1) 0))) (sym y) ∙ t in
      short-to (suc m) k (omega arith) l q
      (h.so_far ∙ ap (λ (n : ℕ). hits_go (drop n s) (114 ∷ d ∷ []) 0 n (after_name i n s)) y
      ∙ step d low high s i m b l (two-miss d low high (get_or s m 0) (get_or s (suc m) 0) (drop (suc (suc m)) s) m (after_name i m s) (h.digit l) w))

  pub short-end : {j : ℕ} → ShortInv d s i j → length s ≤ j → NextRun (λ (w : List ℕ). same w (114 ∷ d ∷ [])) s i j
  short-end {j = zero} h l = absurd (omega (arith, h.i<))
  short-end {j = suc m} h l =
      let y : suc m - 1 ≡ m = omega arith in
      let b : m < length s = omega (arith, h.j≤) in
      record {
        passes = λ k. absurd (omega arith);
        hits =
            h.so_far ∙ ap (λ (n : ℕ). hits_go (drop n s) (114 ∷ d ∷ []) 0 n (after_name i n s)) y
            ∙ ap (λ (r : List ℕ). hits_go r (114 ∷ d ∷ []) 0 m (after_name i m s)) (drop-cons s m 0 b ∙ ap (λ (r : List ℕ). get_or s m 0 ∷ r) (drop_of_length-le s l))
            ∙ one_left d low high (get_or s m 0) m (after_name i m s) ∙ rw (le-ltb (suc m) (length s) l);
      }

  -- the two stand at m
  module _ (m : ℕ) (l : suc m < length s) (x : eqb (get_or s m 0) 114 ≡ true) (y : eqb (get_or s (suc m) 0) d ≡ true) (z : is_name (get_or (drop (suc (suc m)) s) 0 0) ≡ false) where
    two-there : drop m s ≡ 114 ∷ d ∷ drop (suc (suc m)) s
    two-there =
        there d low high s i m l ∙ ap (λ (n : ℕ). n ∷ get_or s (suc m) 0 ∷ drop (suc (suc m)) s) (eqb-true (get_or s m 0) 114 x)
        ∙ ap (λ (n : ℕ). 114 ∷ n ∷ drop (suc (suc m)) s) (eqb-true (get_or s (suc m) 0) d y)

    two-long : m + run_len (drop m s) ≡ suc (suc m)
    two-long = let r = ap (λ (r : List ℕ). run_len r) two-there ∙ two_run 114 d (drop (suc (suc m)) s) refl (digit-name d low high) z in omega arith

    two-part : part m (m + run_len (drop m s)) s ≡ 114 ∷ d ∷ []
    two-part =
        let n : m + run_len (drop m s) - m ≡ 2 = omega (arith, two-long) in
        ap (λ (k : ℕ). take k (drop m s)) n ∙ ap (λ (r : List ℕ). take 2 r) two-there

    two-next : after_name i m s ≡ false → run_hits_from (λ (w : List ℕ). same w (114 ∷ d ∷ [])) s i ≡ hits_go (drop m s) (114 ∷ d ∷ []) 0 m (after_name i m s) →
        NextRun (λ (w : List ℕ). same w (114 ∷ d ∷ [])) s i m
    two-next b e = record {
      passes = λ k. ap (λ (w : List ℕ). same w (114 ∷ d ∷ [])) two-part ∙ same_refl (114 ∷ d ∷ []);
      hits =
          e ∙ ap (λ (r : List ℕ). hits_go r (114 ∷ d ∷ []) 0 m (after_name i m s)) (there d low high s i m l)
          ∙ two-hit d low high (get_or s m 0) (get_or s (suc m) 0) (drop (suc (suc m)) s) m (after_name i m s) y x b z
          ∙ ap (λ (r : List ℕ). m ∷ r) (sym (hits-from d low high s i (suc (suc m))))
          ∙ ap (λ (n : ℕ). m ∷ run_hits_from (λ (w : List ℕ). same w (114 ∷ d ∷ [])) s n) (sym two-long)
          ∙ sym (ap (λ (t : Bool). cond t (m ∷ run_hits_from (λ (w : List ℕ). same w (114 ∷ d ∷ [])) s (m + run_len (drop m s))) []) (lt-ltb m (length s) (omega arith)));
    }

  pub short-found : {j : ℕ} → ShortInv d s i j → j < length s → short_at i j s ≡ true → NextRun (λ (w : List ℕ). same w (114 ∷ d ∷ [])) s i (j - 1)
  short-found {j = zero} h l t = absurd (omega (arith, h.i<))
  short-found {j = suc m} h l t =
      let y : suc m - 1 ≡ m = omega arith in
      let g : get_or (drop (suc (suc m)) s) 0 0 ≡ get_or s (suc m + 1) 0 = get_or-drop (suc (suc m)) s 0 0 ∙ ap (λ (n : ℕ). get_or s n 0) (omega arith) in
      let a : eqb (get_or s (suc m - 1) 0) 114 && not (after_name i (suc m - 1) s) ≡ true = and_left (eqb (get_or s (suc m - 1) 0) 114 && not (after_name i (suc m - 1) s)) (not (is_name (get_or s (suc m + 1) 0))) t in
      let b = and_right (eqb (get_or s (suc m - 1) 0) 114 && not (after_name i (suc m - 1) s)) (not (is_name (get_or s (suc m + 1) 0))) t in
      let c = and_left (eqb (get_or s (suc m - 1) 0) 114) (not (after_name i (suc m - 1) s)) a in
      let o = not-true (after_name i (suc m - 1) s) (and_right (eqb (get_or s (suc m - 1) 0) 114) (not (after_name i (suc m - 1) s)) a) in
      subst (λ (n : ℕ). NextRun (λ (w : List ℕ). same w (114 ∷ d ∷ [])) s i n) (sym y)
      (two-next m l (ap (λ (n : ℕ). eqb (get_or s n 0) 114) (sym y) ∙ c) (h.digit l)
      (ap (λ (x : ℕ). is_name x) g ∙ not-true (is_name (get_or s (suc m + 1) 0)) b)
      (ap (λ (n : ℕ). after_name i n s) (sym y) ∙ o)
      (h.so_far ∙ ap (λ (n : ℕ). hits_go (drop n s) (114 ∷ d ∷ []) 0 n (after_name i n s)) y))

-- what is found is the register's text
pub short-reg : (v : ℕ) → v < 10 → {d : ℕ} → d ≡ 48 + v → {s : List ℕ} {i r : ℕ} → NextRun (λ (w : List ℕ). same w (114 ∷ d ∷ [])) s i r → NextRun (λ (w : List ℕ). same w (reg_text v)) s i r
short-reg v h {d} q {s} {i} {r} n =
    subst (λ (p : List ℕ). NextRun (λ (w : List ℕ). same w p) s i r) (ap (λ (x : ℕ). 114 ∷ x ∷ []) q ∙ sym (short-text v h)) n
