-- Laws of how many bytes b a text and its lines hold, and of how many lines there are. Assumes nothing.
use Rattle.std.proofs.Common.{◌≡◌, ℕ, suc, ◌+◌, ◌-◌, ◌<◌, ◌≤◌, min, Bool, true, false, cond, not, ◌&&◌, eqb, ltb, List, [], ◌∷◌, ◌++◌, map, length, drop, sym, refl, ap, ◌∙◌, add-one, arith, take-append-drop, length-take, drop-drop, le-ltb, lt-ltb, eqb-true}
use lib.ListN.{length-map}
use Rattle.lines.proofs.Tests.{no, and_left, and_right}
use Rattle.lines.proofs.LfLaws.{lines-first, lines-at, lines_end, lines-no_lf}
use Rattle.lines.proofs.StepLaws.{drop-case, drop-one, missing_lf, lines-text}
use Rattle.std.specs.declared.option.Option.TheVariants.{Some, None}
use Rattle.lines.specs.Lf.{part, up_to, count_of, prefixed, ends_in, cut_on, lines_of, unlines}
use Rattle.lines.specs.Inner.Lf.{lacks, no_lf}
use Rattle.lines.specs.Steps.{drop_cr, split_lines, over_from}

-- ---- how many bytes b

pub count-append : (b : ℕ) (xs ys : List ℕ) → count_of b (xs ++ ys) ≡ count_of b xs + count_of b ys
unfolding count_of
count-append b [] ys = omega arith
count-append b (x ∷ xs) ys = go (eqb x b) (count-append b xs ys)
  where
    go : (t : Bool) → count_of b (xs ++ ys) ≡ count_of b xs + count_of b ys →
        cond t (suc (count_of b (xs ++ ys))) (count_of b (xs ++ ys)) ≡ cond t (suc (count_of b xs)) (count_of b xs) + count_of b ys
    go true h = omega arith
    go false h = h

-- a part is no longer than its places are apart
pub part-short : (s : List ℕ) (i e : ℕ) → length (part i e s) ≤ e - i
part-short s i e = let z = length-take (e - i) (drop i s) in omega arith

-- those of a part, and those behind it
pub count-part : (b : ℕ) (s : List ℕ) (i e : ℕ) → i ≤ e → count_of b (drop i s) ≡ count_of b (part i e s) + count_of b (drop e s)
count-part b s i e l =
    let z : i + (e - i) ≡ e = omega arith in
    ap (count_of b) (sym (take-append-drop (e - i) (drop i s))) ∙ count-append b (part i e s) (drop (e - i) (drop i s))
    ∙ ap (λ (x : List ℕ). count_of b (part i e s) + count_of b x) (drop-drop (e - i) i s ∙ ap (λ (n : ℕ). drop n s) z)

pub count_none : (b : ℕ) (l : List ℕ) → lacks b l ≡ true → count_of b l ≡ 0
unfolding count_of lacks
count_none b [] h = refl
count_none b (x ∷ xs) h = go (eqb x b) h (count_none b xs)
  where
    go : (t : Bool) → cond t false (lacks b xs) ≡ true → (lacks b xs ≡ true → count_of b xs ≡ 0) → cond t (suc (count_of b xs)) (count_of b xs) ≡ 0
    go true h f = no h
    go false h f = f h

-- there are as many lines as LFs
pub count-unlines : (ls : List (List ℕ)) → no_lf ls ≡ true → count_of 10 (unlines ls) ≡ length ls
unfolding unlines no_lf count_of
count-unlines [] h = refl
count-unlines (l ∷ ls) h =
    omega (arith, count-append 10 l (10 ∷ unlines ls), count_none 10 l (and_left (lacks 10 l) (no_lf ls) h), count-unlines ls (and_right (lacks 10 l) (no_lf ls) h))

-- ---- a CR is no other byte

module _ (b : ℕ) where
  -- what one byte in front adds to the counts depends on the counts alone
  cut-counts : (t : Bool) (x : ℕ) (ls ms : List (List ℕ)) → map (count_of b) ls ≡ map (count_of b) ms → map (count_of b) (cut_on t x ls) ≡ map (count_of b) (cut_on t x ms)
  unfolding cut_on count_of
  cut-counts true x ls ms h = ap (λ (cs : List ℕ). 0 ∷ cs) h
  cut-counts false x [] [] h = refl
  cut-counts false x [] (m ∷ ms) h = cc
  cut-counts false x (l ∷ ls) [] h = cc
  cut-counts false x (l ∷ ls) (m ∷ ms) h = let e : count_of b l ≡ count_of b m = cc in let f : map (count_of b) ls ≡ map (count_of b) ms = cc in rw (e, f)

  cut-cr : eqb 13 b ≡ false → (l : List ℕ) (ls : List (List ℕ)) → map (count_of b) (cut_on false 13 (l ∷ ls)) ≡ map (count_of b) (l ∷ ls)
  unfolding cut_on count_of
  cut-cr n l ls = rw n

  cr-first : eqb 13 b ≡ false → (l : List ℕ) → 0 < length l → map (count_of b) (cut_on false 13 (lines_of l)) ≡ map (count_of b) (lines_of l)
  cr-first n l h = let f = lines-first l h in ap (λ (ls : List (List ℕ)). map (count_of b) (cut_on false 13 ls)) f ∙ cut-cr n _ _ ∙ ap (map (count_of b)) (sym f)

  -- without the CRs each line has as many bytes b, where b is no CR
  pub drop-counts : eqb 13 b ≡ false → (t : List ℕ) → map (count_of b) (lines_of (drop_cr t)) ≡ map (count_of b) (lines_of t)
  unfolding drop_cr lines_of
  drop-counts n [] = refl
  drop-counts n (x ∷ []) = rw (drop-one x)
  drop-counts n (x ∷ y ∷ ys) = go (eqb x 13 && prefixed (10 ∷ []) (y ∷ ys)) refl (drop-counts n (y ∷ ys))
    where
      go : (t : Bool) → (eqb x 13 && prefixed (10 ∷ []) (y ∷ ys)) ≡ t → map (count_of b) (lines_of (drop_cr (y ∷ ys))) ≡ map (count_of b) (lines_of (y ∷ ys)) →
          map (count_of b) (lines_of (drop_cr (x ∷ y ∷ ys))) ≡ map (count_of b) (lines_of (x ∷ y ∷ ys))
      go true e h =
          let q : x ≡ 13 = eqb-true x 13 (and_left (eqb x 13) (prefixed (10 ∷ []) (y ∷ ys)) e) in
          ap (λ (u : List ℕ). map (count_of b) (lines_of u)) (drop-case x (y ∷ ys) true e)
          ∙ h
          ∙ sym (cr-first n (y ∷ ys) (omega arith))
          ∙ ap (λ (z : ℕ). map (count_of b) (cut_on (eqb z 10) z (lines_of (y ∷ ys)))) (sym q)
      go false e h = ap (λ (u : List ℕ). map (count_of b) (lines_of u)) (drop-case x (y ∷ ys) false e) ∙ cut-counts (eqb x 10) x (lines_of (drop_cr (y ∷ ys))) (lines_of (y ∷ ys)) h

-- ---- how many lines

missing-count : (t : List ℕ) → count_of 10 (missing_lf t) ≡ length (missing_lf t)
unfolding missing_lf count_of
missing-count t = go (ltb 0 (length t) && not (ends_in 10 t))
  where
    go : (b : Bool) → count_of 10 (cond b (10 ∷ []) []) ≡ length {A = ℕ} (cond b (10 ∷ []) [])
    go true = refl
    go false = refl

-- a text has as many lines with its CRs as without
pub split-lines : (t : List ℕ) → length (split_lines t) ≡ length (lines_of t)
unfolding split_lines
split-lines t = sym (length-map (lines_of (drop_cr t)) (count_of 10)) ∙ ap length (drop-counts 10 refl t) ∙ length-map (lines_of t) (count_of 10)

-- a line for each LF, and one for a rest without LF
pub split-count : (t : List ℕ) {xs : List ℕ} → missing_lf t ≡ xs → length (split_lines t) ≡ count_of 10 t + length xs
split-count t e =
    split-lines t
    ∙ sym (count-unlines (lines_of t) (lines-no_lf t))
    ∙ ap (count_of 10) (lines-text t)
    ∙ count-append 10 t (missing_lf t)
    ∙ ap (λ (k : ℕ). count_of 10 t + k) (missing-count t ∙ ap length e)

-- and no other byte
missing-other : (b : ℕ) → eqb 10 b ≡ false → (t : List ℕ) → count_of b (missing_lf t) ≡ 0
unfolding missing_lf count_of
missing-other b k t = go (ltb 0 (length t) && not (ends_in 10 t))
  where
    go : (x : Bool) → count_of b (cond x (10 ∷ []) []) ≡ 0
    go true = rw k
    go false = refl

-- ---- the first crowded line

module _ (most b : ℕ) where
  -- which line is the first depends on the counts alone
  over-counts : (n : ℕ) (ls ms : List (List ℕ)) → map (count_of b) ls ≡ map (count_of b) ms → over_from most b n ls ≡ over_from most b n ms
  unfolding over_from
  over-counts n [] [] h = refl
  over-counts n [] (m ∷ ms) h = cc
  over-counts n (l ∷ ls) [] h = cc
  over-counts n (l ∷ ls) (m ∷ ms) h = let e : count_of b l ≡ count_of b m = cc in let f : map (count_of b) ls ≡ map (count_of b) ms = cc in rw (e, over-counts (suc n) ls ms f)

  pub over-start : eqb 13 b ≡ false → (t : List ℕ) → over_from most b 0 (lines_of t) ≡ over_from most b 0 (split_lines t)
  unfolding split_lines
  over-start h t = sym (over-counts 0 (lines_of (drop_cr t)) (lines_of t) (drop-counts b h t))

  -- lines that hold no more than `most` in all
  over-few : (n : ℕ) (ls : List (List ℕ)) → count_of b (unlines ls) ≤ most → over_from most b n ls ≡ None
  unfolding over_from unlines
  over-few n [] h = refl
  over-few n (l ∷ ls) h =
      let e = count-append b l (10 ∷ unlines ls) in
      let f = count-append b (10 ∷ []) (unlines ls) in
      rw (le-ltb most (count_of b l) (omega arith)) (over-few (suc n) ls (omega arith))

  pub over_none : eqb 13 b ≡ false → eqb 10 b ≡ false → (t : List ℕ) → count_of b t ≤ most → over_from most b 0 (split_lines t) ≡ None
  over_none h k t m =
      sym (over-start h t)
      ∙ over-few 0 (lines_of t) (omega (arith, ap (count_of b) (lines-text t), count-append b t (missing_lf t), missing-other b k t))

  over-case : (n : ℕ) (l : List ℕ) (ls : List (List ℕ)) (t : Bool) → ltb most (count_of b l) ≡ t → over_from most b n (l ∷ ls) ≡ cond t (Some n) (over_from most b (suc n) ls)
  unfolding over_from
  over-case n l ls t e = rw e

  module _ (s : List ℕ) (n i e : ℕ) (h : i < length s) (q : e ≡ i + up_to 10 (drop i s)) where
    pub over-here : most < count_of b (part i e s) → over_from most b n (lines_of (drop i s)) ≡ Some n
    over-here k = ap (over_from most b n) (lines-at s i e h q) ∙ over-case n _ _ true (lt-ltb most _ k)

    pub over-on : count_of b (part i e s) ≤ most → over_from most b n (lines_of (drop i s)) ≡ over_from most b (n + 1) (lines_of (drop (min (e + 1) (length s)) s))
    over-on k = rw (add-one n) (ap (over_from most b n) (lines-at s i e h q) ∙ over-case n _ _ false (le-ltb most _ k))

  pub over-end : (s : List ℕ) (n i : ℕ) → length s ≤ i → over_from most b n (lines_of (drop i s)) ≡ None
  unfolding over_from
  over-end s n i h = ap (over_from most b n) (lines_end s i h)
