-- Laws of LF form and of cutting. Assumes nothing.
use Rattle.std.proofs.Common.{◌≡◌, ℕ, zero, suc, ◌+◌, ◌-◌, ◌<◌, ◌≤◌, min, Bool, true, false, cond, not, ◌||◌, eqb, leb, List, [], ◌∷◌, ◌++◌, length, get_or, take, drop, sym, refl, ap, ◌∙◌, add-one, arith, length-drop, drop_of_length-le, get_or-drop, take_all, drop-cons, take-suc, drop-drop, eq-eqb, ne_eqb, leb-false, leb-true}
use Rattle.lines.proofs.Tests.{no, and-false, and_left, and_right, and_both}
use Rattle.lines.specs.Lf.{part, up_to, count_of, cut_on, lines_of, parts_of, unlines, prefixed}
use Rattle.lines.specs.Inner.Lf.{lacks, no_lf}

-- ---- the first b

pub up_to-le : (b : ℕ) (l : List ℕ) → up_to b l ≤ length l
unfolding up_to
up_to-le b [] = omega arith
up_to-le b (x ∷ xs) = go (eqb x b) (up_to-le b xs)
  where
    go : (t : Bool) → up_to b xs ≤ length xs → cond t 0 (suc (up_to b xs)) ≤ suc (length xs)
    go true h = omega arith
    go false h = omega arith

first-here : (b x : ℕ) (xs : List ℕ) → x ≡ b → up_to b (x ∷ xs) ≡ 0
unfolding up_to
first-here b x xs e = rw (eq-eqb x b e)

first_on : (b x : ℕ) (xs : List ℕ) → (x ≡ b → ⊥) → up_to b (x ∷ xs) ≡ suc (up_to b xs)
unfolding up_to
first_on b x xs n = rw (ne_eqb x b n)

module _ (b : ℕ) (s : List ℕ) (j : ℕ) where
  pub find-here : j < length s → get_or s j 0 ≡ b → up_to b (drop j s) ≡ 0
  find-here h e = rw (drop-cons s j 0 h) (first-here b _ _ e)

  pub find-on : j < length s → (get_or s j 0 ≡ b → ⊥) → up_to b (drop j s) ≡ suc (up_to b (drop (j + 1) s))
  find-on h n = rw (add-one j, drop-cons s j 0 h) (first_on b _ _ n)

  pub find-end : length s ≤ j → up_to b (drop j s) ≡ 0
  unfolding up_to
  find-end h = rw (drop_of_length-le s h)

-- a place found is inside
pub find-le : (b : ℕ) (s : List ℕ) (i e : ℕ) → i ≤ length s → e ≡ i + up_to b (drop i s) → e ≤ length s
find-le b s i e h q = omega (arith, up_to-le b (drop i s), length-drop i s)

-- ---- how many

-- none stands before the first
pub count-skip : (b : ℕ) (l : List ℕ) → count_of b (drop (up_to b l) l) ≡ count_of b l
unfolding count_of up_to
count-skip b [] = refl
count-skip b (x ∷ xs) = go (eqb x b) refl (count-skip b xs)
  where
    go : (t : Bool) → eqb x b ≡ t → count_of b (drop (up_to b xs) xs) ≡ count_of b xs →
        count_of b (drop (cond t 0 (suc (up_to b xs))) (x ∷ xs)) ≡ cond t (suc (count_of b xs)) (count_of b xs)
    go true e h = rw e refl
    go false e h = h

pub count-le : (b : ℕ) (l : List ℕ) → count_of b l ≤ length l
unfolding count_of
count-le b [] = omega arith
count-le b (x ∷ xs) = go (eqb x b) (count-le b xs)
  where
    go : (t : Bool) → count_of b xs ≤ length xs → cond t (suc (count_of b xs)) (count_of b xs) ≤ suc (length xs)
    go true h = omega arith
    go false h = omega arith

count-cons : (b x : ℕ) (xs : List ℕ) (t : Bool) → eqb x b ≡ t → count_of b (x ∷ xs) ≡ cond t (suc (count_of b xs)) (count_of b xs)
unfolding count_of
count-cons b x xs t e = rw e

module _ (b : ℕ) (s : List ℕ) (j : ℕ) where
  pub count-here : j < length s → get_or s j 0 ≡ b → count_of b (drop j s) ≡ suc (count_of b (drop (j + 1) s))
  count-here h e = rw (add-one j, drop-cons s j 0 h) (count-cons b _ _ true (eq-eqb (get_or s j 0) b e))

  pub count-on : j < length s → (get_or s j 0 ≡ b → ⊥) → count_of b (drop j s) ≡ count_of b (drop (j + 1) s)
  count-on h n = rw (add-one j, drop-cons s j 0 h) (count-cons b _ _ false (ne_eqb (get_or s j 0) b n))

  pub count-end : length s ≤ j → count_of b (drop j s) ≡ 0
  unfolding count_of
  count-end h = rw (drop_of_length-le s h)

-- ---- lines

lines_cons : (x : ℕ) (xs : List ℕ) → lines_of (x ∷ xs) ≡ take (up_to 10 (x ∷ xs)) (x ∷ xs) ∷ lines_of (drop (suc (up_to 10 (x ∷ xs))) (x ∷ xs))
unfolding lines_of up_to
lines_cons x [] = go (eqb x 10)
  where
    go : (t : Bool) → cut_on t x [] ≡ take (cond t 0 1) (x ∷ []) ∷ lines_of (drop (suc (cond t 0 1)) (x ∷ []))
    go true = refl
    go false = refl
lines_cons x (y ∷ ys) = go (eqb x 10) (lines_cons y ys)
  where
    go : (t : Bool) → lines_of (y ∷ ys) ≡ take (up_to 10 (y ∷ ys)) (y ∷ ys) ∷ lines_of (drop (suc (up_to 10 (y ∷ ys))) (y ∷ ys)) →
        cut_on t x (lines_of (y ∷ ys)) ≡ take (cond t 0 (suc (up_to 10 (y ∷ ys)))) (x ∷ y ∷ ys) ∷ lines_of (drop (suc (cond t 0 (suc (up_to 10 (y ∷ ys))))) (x ∷ y ∷ ys))
    go true ih = refl
    go false ih = ap (cut_on false x) ih

pub lines-first : (l : List ℕ) → 0 < length l → lines_of l ≡ take (up_to 10 l) l ∷ lines_of (drop (suc (up_to 10 l)) l)
lines-first [] h = absurd (omega arith)
lines-first (x ∷ xs) h = lines_cons x xs

pub drop_min : (n : ℕ) (s : List ℕ) → drop (min n (length s)) s ≡ drop n s
drop_min n s = go (leb n (length s)) refl
  where
    go : (t : Bool) → leb n (length s) ≡ t → drop (min n (length s)) s ≡ drop n s
    go true e = let h = leb-true n (length s) e in let q : min n (length s) ≡ n = omega arith in ap (λ (k : ℕ). drop k s) q
    go false e =
        let h = leb-false n (length s) e in
        let a : length s ≤ min n (length s) = omega arith in
        let b : length s ≤ n = omega arith in
        drop_of_length-le s a ∙ sym (drop_of_length-le s b)

-- the line at the place i ends at e, and the next begins past it
pub lines-at : (s : List ℕ) (i e : ℕ) → i < length s → e ≡ i + up_to 10 (drop i s) → lines_of (drop i s) ≡ part i e s ∷ lines_of (drop (min (e + 1) (length s)) s)
lines-at s i e h q =
    let d : 0 < length (drop i s) = simp length-drop (omega arith) in
    let u : up_to 10 (drop i s) ≡ e - i = omega arith in
    let v : i + suc (up_to 10 (drop i s)) ≡ e + 1 = omega arith in
    lines-first (drop i s) d
    ∙ ap (λ (n : ℕ). take n (drop i s) ∷ lines_of (drop (suc (up_to 10 (drop i s))) (drop i s))) u
    ∙ ap (λ (l : List ℕ). part i e s ∷ lines_of l) (drop-drop (suc (up_to 10 (drop i s))) i s ∙ ap (λ (n : ℕ). drop n s) v ∙ sym (drop_min (e + 1) s))

pub lines_end : (s : List ℕ) (i : ℕ) → length s ≤ i → lines_of (drop i s) ≡ []
unfolding lines_of
lines_end s i h = rw (drop_of_length-le s h)

pub lines-line : (l r : List ℕ) → lacks 10 l ≡ true → lines_of (l ++ 10 ∷ r) ≡ l ∷ lines_of r
unfolding lines_of lacks
lines-line [] r h = refl
lines-line (x ∷ l) r h = go (eqb x 10) h (lines-line l r)
  where
    go : (t : Bool) → cond t false (lacks 10 l) ≡ true → (lacks 10 l ≡ true → lines_of (l ++ 10 ∷ r) ≡ l ∷ lines_of r) → cut_on t x (lines_of (l ++ 10 ∷ r)) ≡ (x ∷ l) ∷ lines_of r
    go true h f = cc
    go false h f = ap (cut_on false x) (f h)

-- lines without LF are what their bytes say
pub lines-unlines : (ls : List (List ℕ)) → no_lf ls ≡ true → lines_of (unlines ls) ≡ ls
unfolding unlines no_lf lines_of
lines-unlines [] h = refl
lines-unlines (l ∷ ls) h = lines-line l (unlines ls) (and_left (lacks 10 l) (no_lf ls) h) ∙ ap (λ (r : List (List ℕ)). l ∷ r) (lines-unlines ls (and_right (lacks 10 l) (no_lf ls) h))

-- ---- pieces

pub parts_last : (b : ℕ) (l : List ℕ) → length l ≤ up_to b l → parts_of b l ≡ l ∷ []
unfolding parts_of up_to
parts_last b [] h = refl
parts_last b (x ∷ xs) h = go (eqb x b) h (parts_last b xs)
  where
    go : (t : Bool) → suc (length xs) ≤ cond t 0 (suc (up_to b xs)) → (length xs ≤ up_to b xs → parts_of b xs ≡ xs ∷ []) → cut_on t x (parts_of b xs) ≡ (x ∷ xs) ∷ []
    go true h f = absurd (omega arith)
    go false h f = ap (cut_on false x) (f (omega arith))

pub parts_more : (b : ℕ) (l : List ℕ) → up_to b l < length l → parts_of b l ≡ take (up_to b l) l ∷ parts_of b (drop (suc (up_to b l)) l)
unfolding parts_of up_to
parts_more b [] h = absurd (omega arith)
parts_more b (x ∷ xs) h = go (eqb x b) h (parts_more b xs)
  where
    go : (t : Bool) → cond t 0 (suc (up_to b xs)) < suc (length xs) → (up_to b xs < length xs → parts_of b xs ≡ take (up_to b xs) xs ∷ parts_of b (drop (suc (up_to b xs)) xs)) →
        cut_on t x (parts_of b xs) ≡ take (cond t 0 (suc (up_to b xs))) (x ∷ xs) ∷ parts_of b (drop (suc (cond t 0 (suc (up_to b xs)))) (x ∷ xs))
    go true h f = refl
    go false h f = ap (cut_on false x) (f (omega arith))

module _ (b : ℕ) (s : List ℕ) (i e : ℕ) (h : i ≤ length s) (q : e ≡ i + up_to b (drop i s)) where
  pub parts-at-end : length s ≤ e → parts_of b (drop i s) ≡ part i e s ∷ []
  parts-at-end k =
      let d = length-drop i s in
      parts_last b (drop i s) (omega arith) ∙ ap (λ (l : List ℕ). l ∷ []) (sym (take_all (e - i) (drop i s) (omega arith)))

  pub parts_at : e < length s → parts_of b (drop i s) ≡ part i e s ∷ parts_of b (drop (e + 1) s)
  parts_at k =
      let d = length-drop i s in
      let u : up_to b (drop i s) ≡ e - i = omega arith in
      let v : i + suc (up_to b (drop i s)) ≡ e + 1 = omega arith in
      parts_more b (drop i s) (omega arith)
      ∙ ap (λ (n : ℕ). take n (drop i s) ∷ parts_of b (drop (suc (up_to b (drop i s))) (drop i s))) u
      ∙ ap (λ (l : List ℕ). part i e s ∷ parts_of b l) (drop-drop (suc (up_to b (drop i s))) i s ∙ ap (λ (n : ℕ). drop n s) v)

-- ---- parts

pub part-more : (s : List ℕ) (a i : ℕ) → a ≤ i → i < length s → part a (i + 1) s ≡ part a i s ++ (get_or s i 0 ∷ [])
part-more s a i p q =
    let e : i + 1 - a ≡ suc (i - a) = omega arith in
    let d : a + (i - a) ≡ i = omega arith in
    let l : i - a < length (drop a s) = simp length-drop (omega arith) in
    rw (e, take-suc (drop a s) (i - a) 0 l, get_or-drop, d)

pub part_none : (s : List ℕ) (a : ℕ) → part a a s ≡ []
part_none s a = let q : a - a ≡ 0 = omega arith in ap (λ (n : ℕ). take n (drop a s)) q

-- what `&s[i..]` is
pub rest_of : (s : List ℕ) (i : ℕ) → part i (length s) s ≡ drop i s
rest_of s i = let d = length-drop i s in take_all (length s - i) (drop i s) (omega arith)

-- ---- a prefix

pub short : (p s : List ℕ) → length s < length p → prefixed p s ≡ false
unfolding prefixed
short [] s h = absurd (omega arith)
short (x ∷ p) [] h = refl
short (x ∷ p) (y ∷ s) h = rw (short p s (omega arith)) (and-false (eqb x y))

same : (x y : ℕ) (p s : List ℕ) → x ≡ y → prefixed (x ∷ p) (y ∷ s) ≡ prefixed p s
unfolding prefixed
same x y p s e = rw (eq-eqb x y e)

differ : (x y : ℕ) (p s : List ℕ) → (x ≡ y → ⊥) → prefixed (x ∷ p) (y ∷ s) ≡ false
unfolding prefixed
differ x y p s n = rw (ne_eqb x y n)

module _ (p s : List ℕ) (i : ℕ) (h : i < length p) (k : i < length s) where
  pub same_at : get_or p i 0 ≡ get_or s i 0 → prefixed (drop i p) (drop i s) ≡ prefixed (drop (i + 1) p) (drop (i + 1) s)
  same_at e = rw (add-one i, drop-cons p i 0 h, drop-cons s i 0 k) (same _ _ _ _ e)

  pub differ-at : (get_or p i 0 ≡ get_or s i 0 → ⊥) → prefixed (drop i p) (drop i s) ≡ false
  differ-at n = rw (drop-cons p i 0 h, drop-cons s i 0 k) (differ _ _ _ _ n)

-- ---- no line holds an LF

pub lines-no_lf : (s : List ℕ) → no_lf (lines_of s) ≡ true
unfolding no_lf lines_of
lines-no_lf [] = refl
lines-no_lf (x ∷ xs) = go (eqb x 10) refl (lines_of xs) (lines-no_lf xs)
  where
    go : (t : Bool) → eqb x 10 ≡ t → (ls : List (List ℕ)) → no_lf ls ≡ true → no_lf (cut_on t x ls) ≡ true
    go true e ls h = h
    go false e [] h = rw e
    go false e (l ∷ ls) h = rw e h

pub no_lf-append : (xs ys : List (List ℕ)) → no_lf xs ≡ true → no_lf ys ≡ true → no_lf (xs ++ ys) ≡ true
unfolding no_lf
no_lf-append [] ys p q = q
no_lf-append (x ∷ xs) ys p q = and_both (and_left (lacks 10 x) (no_lf xs) p) (no_lf-append xs ys (and_right (lacks 10 x) (no_lf xs) p) q)

-- a byte in front, and the rest
pub lacks-cons : (b x : ℕ) (xs : List ℕ) → lacks b (x ∷ xs) ≡ true → (eqb x b ≡ false) × (lacks b xs ≡ true)
unfolding lacks
lacks-cons b x xs h = go (eqb x b) h
  where
    go : (t : Bool) → cond t false (lacks b xs) ≡ true → (t ≡ false) × (lacks b xs ≡ true)
    go true h = no h
    go false h = (refl, h)

pub lacks-with : (b x : ℕ) (xs : List ℕ) (t : Bool) → eqb x b ≡ t → lacks b (x ∷ xs) ≡ cond t false (lacks b xs)
unfolding lacks
lacks-with b x xs t e = rw e

-- the first b is past bytes that stand before it
pub up-skip : (b n : ℕ) (l : List ℕ) → n ≤ up_to b l → up_to b l ≡ n + up_to b (drop n l)
unfolding up_to
up-skip b zero l h = omega arith
up-skip b (suc n) [] h = absurd (omega arith)
up-skip b (suc n) (x ∷ xs) h = go (eqb x b) h (up-skip b n xs)
  where
    go : (t : Bool) → suc n ≤ cond t 0 (suc (up_to b xs)) → (n ≤ up_to b xs → up_to b xs ≡ n + up_to b (drop n xs)) → cond t 0 (suc (up_to b xs)) ≡ suc n + up_to b (drop n xs)
    go true k f = absurd (omega arith)
    go false k f = let r = f (omega arith) in omega arith

-- the same of the first n bytes alone
pub up-front : (b n : ℕ) (l : List ℕ) → up_to b (take n l) ≡ min (up_to b l) n
unfolding up_to
up-front b zero l = omega arith
up-front b (suc n) [] = omega arith
up-front b (suc n) (x ∷ xs) = go (eqb x b) (up-front b n xs)
  where
    go : (t : Bool) → up_to b (take n xs) ≡ min (up_to b xs) n → cond t 0 (suc (up_to b (take n xs))) ≡ min (cond t 0 (suc (up_to b xs))) (suc n)
    go true h = omega arith
    go false h = omega arith

-- eight tests at once
lacks-eight : (b x₀ x₁ x₂ x₃ x₄ x₅ x₆ x₇ : ℕ) →
    not (eqb x₀ b || (eqb x₁ b || (eqb x₂ b || (eqb x₃ b || (eqb x₄ b || (eqb x₅ b || (eqb x₆ b || eqb x₇ b))))))) ≡ lacks b (x₀ ∷ x₁ ∷ x₂ ∷ x₃ ∷ x₄ ∷ x₅ ∷ x₆ ∷ x₇ ∷ [])
unfolding lacks
lacks-eight b x₀ x₁ x₂ x₃ x₄ x₅ x₆ x₇ = go (eqb x₀ b) (eqb x₁ b) (eqb x₂ b) (eqb x₃ b) (eqb x₄ b) (eqb x₅ b) (eqb x₆ b) (eqb x₇ b)
  where
    go : (a c d e f g h i : Bool) → not (a || (c || (d || (e || (f || (g || (h || i))))))) ≡
        cond a false (cond c false (cond d false (cond e false (cond f false (cond g false (cond h false (cond i false true)))))))
    go true c d e f g h i = refl
    go false true d e f g h i = refl
    go false false true e f g h i = refl
    go false false false true f g h i = refl
    go false false false false true g h i = refl
    go false false false false false true h i = refl
    go false false false false false false true i = refl
    go false false false false false false false true = refl
    go false false false false false false false false = refl

-- eight bytes of a text
take_on : (s : List ℕ) (n j k : ℕ) → k ≡ j + 1 → j < length s → take (suc n) (drop j s) ≡ get_or s j 0 ∷ take n (drop k s)
take_on s n j k q h = rw (q, add-one j, drop-cons s j 0 h)

pub eight_is : (s : List ℕ) (j : ℕ) → j + 8 ≤ length s →
    take 8 (drop j s) ≡ get_or s j 0 ∷ get_or s (j + 1) 0 ∷ get_or s (j + 2) 0 ∷ get_or s (j + 3) 0 ∷ get_or s (j + 4) 0 ∷ get_or s (j + 5) 0 ∷ get_or s (j + 6) 0 ∷ get_or s (j + 7) 0 ∷ []
eight_is s j h =
    take_on s 7 j (j + 1) refl (omega arith) ∙ ap (λ (r : List ℕ). get_or s j 0 ∷ r)
    (take_on s 6 (j + 1) (j + 2) (omega arith) (omega arith) ∙ ap (λ (r : List ℕ). get_or s (j + 1) 0 ∷ r)
    (take_on s 5 (j + 2) (j + 3) (omega arith) (omega arith) ∙ ap (λ (r : List ℕ). get_or s (j + 2) 0 ∷ r)
    (take_on s 4 (j + 3) (j + 4) (omega arith) (omega arith) ∙ ap (λ (r : List ℕ). get_or s (j + 3) 0 ∷ r)
    (take_on s 3 (j + 4) (j + 5) (omega arith) (omega arith) ∙ ap (λ (r : List ℕ). get_or s (j + 4) 0 ∷ r)
    (take_on s 2 (j + 5) (j + 6) (omega arith) (omega arith) ∙ ap (λ (r : List ℕ). get_or s (j + 5) 0 ∷ r)
    (take_on s 1 (j + 6) (j + 7) (omega arith) (omega arith) ∙ ap (λ (r : List ℕ). get_or s (j + 6) 0 ∷ r)
    (take_on s 0 (j + 7) (j + 8) (omega arith) (omega arith))))))))

pub eight-at : (b : ℕ) (s : List ℕ) (j : ℕ) → j + 8 ≤ length s →
    not (eqb (get_or s j 0) b || (eqb (get_or s (j + 1) 0) b || (eqb (get_or s (j + 2) 0) b || (eqb (get_or s (j + 3) 0) b || (eqb (get_or s (j + 4) 0) b || (eqb (get_or s (j + 5) 0) b || (eqb (get_or s (j + 6) 0) b || eqb (get_or s (j + 7) 0) b))))))) ≡ lacks b (take 8 (drop j s))
eight-at b s j h = lacks-eight b (get_or s j 0) (get_or s (j + 1) 0) (get_or s (j + 2) 0) (get_or s (j + 3) 0) (get_or s (j + 4) 0) (get_or s (j + 5) 0) (get_or s (j + 6) 0) (get_or s (j + 7) 0) ∙ ap (lacks b) (sym (eight_is s j h))

pub lacks-append : (xs ys : List ℕ) → lacks 10 xs ≡ true → lacks 10 ys ≡ true → lacks 10 (xs ++ ys) ≡ true
unfolding lacks
lacks-append [] ys p q = q
lacks-append (x ∷ xs) ys p q = go (eqb x 10) p (λ h. lacks-append xs ys h q)
  where
    go : (t : Bool) → cond t false (lacks 10 xs) ≡ true → (lacks 10 xs ≡ true → lacks 10 (xs ++ ys) ≡ true) → cond t false (lacks 10 (xs ++ ys)) ≡ true
    go true h f = h
    go false h f = f h

-- a part lacks what the whole lacks
pub front-lacks : (b n : ℕ) (xs : List ℕ) → lacks b xs ≡ true → lacks b (take n xs) ≡ true
unfolding lacks
front-lacks b zero xs p = refl
front-lacks b (suc n) [] p = refl
front-lacks b (suc n) (x ∷ xs) p = go (eqb x b) p (front-lacks b n xs)
  where
    go : (t : Bool) → cond t false (lacks b xs) ≡ true → (lacks b xs ≡ true → lacks b (take n xs) ≡ true) → cond t false (lacks b (take n xs)) ≡ true
    go true h f = h
    go false h f = f h

pub rest-lacks : (b n : ℕ) (xs : List ℕ) → lacks b xs ≡ true → lacks b (drop n xs) ≡ true
rest-lacks b zero xs p = p
rest-lacks b (suc n) [] p = p
rest-lacks b (suc n) (x ∷ xs) p = rest-lacks b n xs (lacks-cons b x xs p).1

pub lacks-take : (n : ℕ) (xs : List ℕ) → lacks 10 xs ≡ true → lacks 10 (take n xs) ≡ true
lacks-take n xs p = front-lacks 10 n xs p

pub lacks-drop : (n : ℕ) (xs : List ℕ) → lacks 10 xs ≡ true → lacks 10 (drop n xs) ≡ true
lacks-drop n xs p = rest-lacks 10 n xs p

pub parts-no_lf : (b : ℕ) (xs : List ℕ) → lacks 10 xs ≡ true → no_lf (parts_of b xs) ≡ true
unfolding no_lf parts_of lacks
parts-no_lf b [] p = refl
parts-no_lf b (x ∷ xs) p = go (eqb x 10) refl p (eqb x b) (parts_of b xs) (parts-no_lf b xs)
  where
    go : (t : Bool) → eqb x 10 ≡ t → cond t false (lacks 10 xs) ≡ true → (u : Bool) → (ls : List (List ℕ)) → (lacks 10 xs ≡ true → no_lf ls ≡ true) → no_lf (cut_on u x ls) ≡ true
    go true e h u ls f = no h
    go false e h true ls f = f h
    go false e h false [] f = rw e
    go false e h false (l ∷ ls) f = rw e (f h)
