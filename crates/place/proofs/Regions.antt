-- Regions as runs of lines: a region's bytes are its lines, and a header looks at nothing above it. Assumes nothing.
use Prim.Native.Nat.{ℕ, zero, suc, ◌+◌, ◌-◌, ◌≤◌, ◌<◌, min}
use mathlib.Core.Path.{◌≡◌, refl, sym, ap, ◌∙◌}
use mathlib.Core.Bool.{Bool, true, false, cond, not, ◌&&◌, ◌||◌}
use mathlib.Core.List.{List, [], ◌∷◌, ◌++◌}
use native.Mathlib.Omega.{arith}
use borrow.Author.Tests.{eqb-true, leb-true, leb-false, ltb-true, ltb-false}
use lib.Dec.{eqb, leb, ltb}
use lib.ListN.{length, get_or, take, drop, length-drop, drop_of_length-le}
use lib.Seq.{drop-drop, take_all, take-nil, take-append-add, length-take-le}
use Rattle.lines.specs.Lf.{part, up_to, lines_of, prefixed}
use Rattle.lines.specs.Inner.Lf.{lacks}
use Rattle.lines.proofs.Tests.{no, or-false, and_left, and-true, eqb-sym}
use Rattle.lines.proofs.LfLaws.{lines-first, lines-line, drop_min}
use Rattle.place.specs.Region.{function_word, var_word, let_head, const_word, class_word, let_phi, is_header, until_header, region, region_at}
use Rattle.place.specs.Inner.Region.{up_header, region_len}

-- the bytes of the line that is passed
skip : (k : ℕ) (l : List ℕ) → up_header k l ≡ min k (length l) + up_header 0 (drop k l)
unfolding up_header
skip zero l = omega arith
skip (suc k) [] = omega arith
skip (suc k) (x ∷ xs) = let r = skip k xs in omega arith

-- past the line at i
pub past : (t : List ℕ) (i e j : ℕ) → e ≡ i + up_to 10 (drop i t) → i ≤ length t → j ≡ min (e + 1) (length t) → j + up_header 0 (drop j t) ≡ i + region_len (drop i t)
past t i e j q h r =
    let v : i + suc (up_to 10 (drop i t)) ≡ e + 1 = omega arith in
    let d : drop (suc (up_to 10 (drop i t))) (drop i t) ≡ drop j t =
    drop-drop (suc (up_to 10 (drop i t))) i t ∙ ap (λ (n : ℕ). drop n t) v ∙ sym (drop_min (e + 1) t) ∙ ap (λ (n : ℕ). drop n t) (sym r) in
    omega (arith, skip (suc (up_to 10 (drop i t))) (drop i t), ap (up_header 0) d, length-drop i t)

-- ---- at the head of a line: a header stops, and another line is passed

head-stop : (x : ℕ) (xs : List ℕ) → is_header (take (up_to 10 (x ∷ xs)) (x ∷ xs)) ≡ true → up_header 0 (x ∷ xs) ≡ 0
unfolding up_header
head-stop x xs e = rw e

head-on : (x : ℕ) (xs : List ℕ) → is_header (take (up_to 10 (x ∷ xs)) (x ∷ xs)) ≡ false → up_header 0 (x ∷ xs) ≡ region_len (x ∷ xs)
unfolding up_header
head-on x xs e = rw e

list-stop : (l : List ℕ) → 0 < length l → is_header (take (up_to 10 l) l) ≡ true → up_header 0 l ≡ 0
list-stop [] h e = absurd (omega arith)
list-stop (x ∷ xs) h e = head-stop x xs e

list_on : (l : List ℕ) → 0 < length l → is_header (take (up_to 10 l) l) ≡ false → up_header 0 l ≡ region_len l
list_on [] h e = absurd (omega arith)
list_on (x ∷ xs) h e = head-on x xs e

module _ (t : List ℕ) (j f : ℕ) (h : j < length t) (q : f ≡ j + up_to 10 (drop j t)) where
  line-part : take (up_to 10 (drop j t)) (drop j t) ≡ part j f t
  line-part = let u : up_to 10 (drop j t) ≡ f - j = omega arith in ap (λ (n : ℕ). take n (drop j t)) u

  pub end-stop : is_header (part j f t) ≡ true → up_header 0 (drop j t) ≡ 0
  end-stop e = list-stop (drop j t) (simp length-drop (omega arith)) (ap is_header line-part ∙ e)

  pub end_on : is_header (part j f t) ≡ false → up_header 0 (drop j t) ≡ region_len (drop j t)
  end_on e = list_on (drop j t) (simp length-drop (omega arith)) (ap is_header line-part ∙ e)

pub end-end : (t : List ℕ) (j : ℕ) → length t ≤ j → up_header 0 (drop j t) ≡ 0
unfolding up_header
end-end t j h = rw (drop_of_length-le t h)

-- past the end there is none
pub end-past : (t : List ℕ) (i : ℕ) → length t ≤ i → i ≡ i + region_len (drop i t)
unfolding up_header
end-past t i h = rw (drop_of_length-le t h) (omega arith)

-- ---- the lines of a region

-- a line of bytes, and the LF after it
lacks-line : (l : List ℕ) → lacks 10 (take (up_to 10 l) l) ≡ true
unfolding up_to lacks
lacks-line [] = refl
lacks-line (x ∷ xs) = go (eqb x 10) refl (lacks-line xs)
  where
    go : (t : Bool) → eqb x 10 ≡ t → lacks 10 (take (up_to 10 xs) xs) ≡ true → lacks 10 (take (cond t 0 (suc (up_to 10 xs))) (x ∷ xs)) ≡ true
    go true e ih = refl
    go false e ih = rw e ih

split-line : (l : List ℕ) → up_to 10 l < length l → l ≡ take (up_to 10 l) l ++ 10 ∷ drop (suc (up_to 10 l)) l
unfolding up_to
split-line [] h = absurd (omega arith)
split-line (x ∷ xs) h = go (eqb x 10) refl h (split-line xs)
  where
    go : (t : Bool) → eqb x 10 ≡ t → cond t 0 (suc (up_to 10 xs)) < suc (length xs) →
        (up_to 10 xs < length xs → xs ≡ take (up_to 10 xs) xs ++ 10 ∷ drop (suc (up_to 10 xs)) xs) →
        x ∷ xs ≡ take (cond t 0 (suc (up_to 10 xs))) (x ∷ xs) ++ 10 ∷ drop (suc (cond t 0 (suc (up_to 10 xs)))) (x ∷ xs)
    go true e k f = ap (λ (n : ℕ). n ∷ xs) (eqb-true x 10 e)
    go false e k f = ap (λ (r : List ℕ). x ∷ r) (f (omega arith))

-- one line and what is taken of the lines below it
glue : (l : List ℕ) (n : ℕ) → 0 < length l → lines_of (take (suc (up_to 10 l) + n) l) ≡ take (up_to 10 l) l ∷ lines_of (take n (drop (suc (up_to 10 l)) l))
glue l n h = go (ltb (up_to 10 l) (length l)) refl
  where
    go : (t : Bool) → ltb (up_to 10 l) (length l) ≡ t → lines_of (take (suc (up_to 10 l) + n) l) ≡ take (up_to 10 l) l ∷ lines_of (take n (drop (suc (up_to 10 l)) l))
    go true e =
        let k = ltb-true (up_to 10 l) (length l) e in
        let a : List ℕ = take (up_to 10 l) l in
        let r : List ℕ = drop (suc (up_to 10 l)) l in
        let m : length a ≡ up_to 10 l = length-take-le (up_to 10 l) l (omega arith) in
        let z : suc (up_to 10 l) + n ≡ length a + suc n = omega arith in
        ap lines_of (ap (take (suc (up_to 10 l) + n)) (split-line l k) ∙ ap (λ (i : ℕ). take i (a ++ 10 ∷ r)) z ∙ take-append-add a (10 ∷ r) (suc n))
        ∙ lines-line a (take n r) (lacks-line l)
    go false e =
        let k = ltb-false (up_to 10 l) (length l) e in
        let b : length l ≤ suc (up_to 10 l) = omega arith in
        let d : drop (suc (up_to 10 l)) l ≡ [] = drop_of_length-le l b in
        ap lines_of (take_all (suc (up_to 10 l) + n) l (omega arith)) ∙ lines-first l h
        ∙ ap (λ (r : List ℕ). take (up_to 10 l) l ∷ lines_of r) (d ∙ sym (take-nil n) ∙ ap (take n) (sym d))

same-take : (l : List ℕ) → take (region_len l) l ≡ take (suc (up_to 10 l) + up_header 0 (drop (suc (up_to 10 l)) l)) l
same-take l = go (leb (suc (up_to 10 l)) (length l)) refl
  where
    go : (t : Bool) → leb (suc (up_to 10 l)) (length l) ≡ t → take (region_len l) l ≡ take (suc (up_to 10 l) + up_header 0 (drop (suc (up_to 10 l)) l)) l
    go true e =
        let k = leb-true (suc (up_to 10 l)) (length l) e in
        let s = skip (suc (up_to 10 l)) l in
        let z : region_len l ≡ suc (up_to 10 l) + up_header 0 (drop (suc (up_to 10 l)) l) = omega arith in
        ap (λ (n : ℕ). take n l) z
    go false e =
        let k = leb-false (suc (up_to 10 l)) (length l) e in
        let s = skip (suc (up_to 10 l)) l in
        take_all (region_len l) l (omega arith) ∙ sym (take_all (suc (up_to 10 l) + up_header 0 (drop (suc (up_to 10 l)) l)) l (omega arith))

region-step : (l : List ℕ) → 0 < length l →
    lines_of (take (up_header 0 (drop (suc (up_to 10 l)) l)) (drop (suc (up_to 10 l)) l)) ≡ until_header (lines_of (drop (suc (up_to 10 l)) l)) →
    lines_of (take (region_len l) l) ≡ take (up_to 10 l) l ∷ until_header (lines_of (drop (suc (up_to 10 l)) l))
region-step l h ih = ap lines_of (same-take l) ∙ glue l (up_header 0 (drop (suc (up_to 10 l)) l)) h ∙ ap (λ (r : List (List ℕ)). take (up_to 10 l) l ∷ r) ih

until-cons : (l : List ℕ) (ls : List (List ℕ)) (b : Bool) → is_header l ≡ b → until_header (l ∷ ls) ≡ cond b [] (l ∷ until_header ls)
unfolding until_header
until-cons l ls b e = rw e

lines_none : lines_of [] ≡ []
unfolding lines_of
lines_none = refl

until-by : (x : ℕ) (xs : List ℕ) (b : Bool) → is_header (take (up_to 10 (x ∷ xs)) (x ∷ xs)) ≡ b →
    lines_of (take (up_header 0 (drop (suc (up_to 10 (x ∷ xs))) (x ∷ xs))) (drop (suc (up_to 10 (x ∷ xs))) (x ∷ xs))) ≡ until_header (lines_of (drop (suc (up_to 10 (x ∷ xs))) (x ∷ xs))) →
    lines_of (take (up_header 0 (x ∷ xs)) (x ∷ xs)) ≡ until_header (lines_of (x ∷ xs))
until-by x xs true e ih =
    ap (λ (k : ℕ). lines_of (take k (x ∷ xs))) (head-stop x xs e) ∙ lines_none
    ∙ sym (ap until_header (lines-first (x ∷ xs) (omega arith)) ∙ until-cons (take (up_to 10 (x ∷ xs)) (x ∷ xs)) _ true e)
until-by x xs false e ih =
    ap (λ (k : ℕ). lines_of (take k (x ∷ xs))) (head-on x xs e) ∙ region-step (x ∷ xs) (omega arith) ih
    ∙ sym (ap until_header (lines-first (x ∷ xs) (omega arith)) ∙ until-cons (take (up_to 10 (x ∷ xs)) (x ∷ xs)) _ false e)

region-by : (x : ℕ) (xs : List ℕ) →
    lines_of (take (up_header 0 (drop (suc (up_to 10 (x ∷ xs))) (x ∷ xs))) (drop (suc (up_to 10 (x ∷ xs))) (x ∷ xs))) ≡ until_header (lines_of (drop (suc (up_to 10 (x ∷ xs))) (x ∷ xs))) →
    lines_of (take (region_len (x ∷ xs)) (x ∷ xs)) ≡ region (lines_of (x ∷ xs))
unfolding region
region-by x xs ih = region-step (x ∷ xs) (omega arith) ih ∙ sym (ap region (lines-first (x ∷ xs) (omega arith)))

until-lines : (n : ℕ) (l : List ℕ) → length l ≤ n → lines_of (take (up_header 0 l) l) ≡ until_header (lines_of l)
unfolding up_header lines_of until_header
until-lines zero [] h = refl
until-lines (suc n) [] h = refl
until-lines zero (x ∷ xs) h = absurd (omega arith)
until-lines (suc n) (x ∷ xs) h = until-by x xs (is_header (take (up_to 10 (x ∷ xs)) (x ∷ xs))) refl
    (until-lines n (drop (suc (up_to 10 (x ∷ xs))) (x ∷ xs)) (let d = length-drop (up_to 10 (x ∷ xs)) xs in omega arith))

-- the bytes that a region takes are its lines
pub region-lines : (l : List ℕ) → lines_of (take (region_len l) l) ≡ region (lines_of l)
unfolding up_header lines_of region
region-lines [] = refl
region-lines (x ∷ xs) = region-by x xs (until-lines (length (drop (suc (up_to 10 (x ∷ xs))) (x ∷ xs))) (drop (suc (up_to 10 (x ∷ xs))) (x ∷ xs)) (omega arith))

-- the same from a place on
pub region-at : (t : List ℕ) (i r : ℕ) → r ≡ i + region_len (drop i t) → lines_of (part i r t) ≡ region (lines_of (drop i t))
region-at t i r q = let z : r - i ≡ region_len (drop i t) = omega arith in ap (λ (n : ℕ). lines_of (take n (drop i t))) z ∙ region-lines (drop i t)

-- a region ends inside the text
up_le : (k : ℕ) (l : List ℕ) → up_header k l ≤ length l
unfolding up_header
up_le k [] = omega arith
up_le (suc k) (x ∷ xs) = let r = up_le k xs in omega arith
up_le zero (x ∷ xs) = go (is_header (take (up_to 10 (x ∷ xs)) (x ∷ xs))) (up_le (up_to 10 (x ∷ xs)) xs)
  where
    go : (b : Bool) → up_header (up_to 10 (x ∷ xs)) xs ≤ length xs → cond b 0 (suc (up_header (up_to 10 (x ∷ xs)) xs)) ≤ suc (length xs)
    go true h = omega arith
    go false h = omega arith

pub region-le : (t : List ℕ) (i r : ℕ) → i ≤ length t → r ≡ i + region_len (drop i t) → r ≤ length t
region-le t i r h q = omega (arith, up_le (suc (up_to 10 (drop i t))) (drop i t), length-drop i t)

-- ---- above a header

module _ (h : List ℕ) (t : List (List ℕ)) (e : is_header h ≡ true) where
  -- the lines above the first header of the upper lines are all that is above
  pub until-upper : (u : List (List ℕ)) → until_header (u ++ h ∷ t) ≡ until_header u
  unfolding until_header
  until-upper [] = rw e
  until-upper (l ∷ u) = rw (until-upper u)

  -- so the region of an upper line is the same whatever stands below
  pub at-upper : (l : List ℕ) (u run : List (List ℕ)) → region_at l (u ++ h ∷ t) run ≡ region_at l u run
  unfolding region_at
  at-upper l u run = ap (λ (r : List (List ℕ)). cond (is_header l) (l ∷ r) run) (until-upper u)

  -- and a header's the same whatever stands above
  pub at-header : (run run' : List (List ℕ)) → region_at h t run ≡ region_at h t run'
  unfolding region_at
  at-header run run' = rw e

-- ---- the first byte of a header

four : (a b c d : Bool) → a || (b || (c || d)) ≡ false → (a ≡ false) × ((b ≡ false) × ((c ≡ false) × (d ≡ false)))
four false false false false e = (refl, (refl, (refl, refl)))
four true b c d e = no (sym e)
four false true c d e = no (sym e)
four false false true d e = no (sym e)
four false false false true e = no (sym e)

-- a line that begins with none of `f`, `l`, `c` and `v` is no header
no-head : (l : List ℕ) (x : ℕ) → x ≡ get_or l 0 0 → eqb x 102 || (eqb x 108 || (eqb x 99 || eqb x 118)) ≡ false → false ≡ is_header l
unfolding is_header
no-head [] x q e = refl
no-head (y ∷ l) x q e =
    let f = four (eqb x 102) (eqb x 108) (eqb x 99) (eqb x 118) e in
    rw (← q, eqb-sym 102 x ∙ f.0, eqb-sym 108 x ∙ f.1.0, eqb-sym 99 x ∙ f.1.1.0, eqb-sym 118 x ∙ f.1.1.1)

-- nor is one that begins with a space
pub space-head : (l : List ℕ) (x : ℕ) → x ≡ get_or l 0 0 → x ≡ 32 → false ≡ is_header l
space-head l x q e = no-head l x q (ap (λ (y : ℕ). eqb y 102 || (eqb y 108 || (eqb y 99 || eqb y 118))) e)

-- `function ` by its bytes
pub word-front : (l : List ℕ) → 9 ≤ length l →
    eqb (get_or l 0 0) 102 && (eqb (get_or l 1 0) 117 && (eqb (get_or l 2 0) 110 && (eqb (get_or l 3 0) 99 && (eqb (get_or l 4 0) 116 && (eqb (get_or l 5 0) 105 && (eqb (get_or l 6 0) 111 && (eqb (get_or l 7 0) 110 && eqb (get_or l 8 0) 32)))))))
    ≡ prefixed function_word l
unfolding prefixed
word-front [] q = absurd (omega arith)
word-front (a ∷ []) q = absurd (omega arith)
word-front (a ∷ b ∷ []) q = absurd (omega arith)
word-front (a ∷ b ∷ c ∷ []) q = absurd (omega arith)
word-front (a ∷ b ∷ c ∷ d ∷ []) q = absurd (omega arith)
word-front (a ∷ b ∷ c ∷ d ∷ e ∷ []) q = absurd (omega arith)
word-front (a ∷ b ∷ c ∷ d ∷ e ∷ f ∷ []) q = absurd (omega arith)
word-front (a ∷ b ∷ c ∷ d ∷ e ∷ f ∷ g ∷ []) q = absurd (omega arith)
word-front (a ∷ b ∷ c ∷ d ∷ e ∷ f ∷ g ∷ h ∷ []) q = absurd (omega arith)
word-front (a ∷ b ∷ c ∷ d ∷ e ∷ f ∷ g ∷ h ∷ i ∷ l) q =
    rw (eqb-sym a 102, eqb-sym b 117, eqb-sym c 110, eqb-sym d 99, eqb-sym e 116, eqb-sym f 105, eqb-sym g 111, eqb-sym h 110, eqb-sym i 32, and-true (eqb 32 i))

-- a line that begins with `f` is a header where it begins so
f-head : (l : List ℕ) (x : ℕ) → x ≡ get_or l 0 0 → x ≡ 102 → prefixed function_word l ≡ is_header l
unfolding is_header prefixed
f-head [] x q e = refl
f-head (y ∷ l) x q e = rw (← q, e) (sym (or-false _))

pub function-head : (l : List ℕ) → prefixed function_word l ≡ true → true ≡ is_header l
unfolding prefixed
function-head [] h = no h
function-head (y ∷ l) h = sym h ∙ f-head (y ∷ l) y refl (sym (eqb-true 102 y (and_left (eqb 102 y) (prefixed (drop 1 function_word) l) h)))

-- another where it begins with one of the other words
pub other-head : (l : List ℕ) → prefixed function_word l ≡ false →
    not (prefixed let_phi l) && (prefixed var_word l || (prefixed let_head l || (prefixed const_word l || prefixed class_word l))) ≡ is_header l
unfolding is_header
other-head l h = rw h

-- and not where it begins with none of their bytes
pub neither-head : (l : List ℕ) (x : ℕ) → prefixed function_word l ≡ false → x ≡ get_or l 0 0 → eqb x 108 || (eqb x 99 || eqb x 118) ≡ false → false ≡ is_header l
neither-head l x h q e = go (eqb x 102) refl
  where
    go : (t : Bool) → eqb x 102 ≡ t → false ≡ is_header l
    go true t = sym h ∙ f-head l x q (eqb-true x 102 t)
    go false t = no-head l x q (ap (λ (b : Bool). b || (eqb x 108 || (eqb x 99 || eqb x 118))) t ∙ e)
