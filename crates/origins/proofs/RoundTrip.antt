-- What is written reads back as it was, and what was read is written as it was: over the width. Assumes nothing.
use Prim.Native.Nat.{ℕ, zero, suc, ◌+◌, ◌*◌, ◌/◌, ◌%◌, ◌^◌, ◌≤◌, ◌<◌}
use mathlib.Core.Path.{◌≡◌, refl, sym, ap, subst, ◌∙◌}
use mathlib.Core.Bool.{Bool, true, false, cond, not, ◌&&◌}
use mathlib.Core.List.{List, [], ◌∷◌, ◌++◌, append_assoc}
use native.Mathlib.Omega.{arith}
use native.Mathlib.Nat.{mul-suc, add-mul, le_trans, le_of_eq}
use borrow.Author.Tests.{eq-eqb, ne_eqb, eqb-true, eqb-false, lt-ltb, le-ltb, ltb-true, ltb-false, le-leb, leb-true, not-false}
use lib.Dec.{eqb, leb, ltb}
use lib.ListN.{length, take, drop, get_or, length-append, length-take, length-drop, take-append-drop}
use lib.Seq.{take-add, take_at, drop_at, drop-drop, drop-append-add, get_or-drop, get_or-append_seam, drop-cons}
use Rattle.lines.proofs.Tests.{no, and_left, and_right, and_both}
use Rattle.lines.specs.Lf.{all, word, low_bytes}
use Rattle.origins.specs.declared.Went.{Went}
use Rattle.origins.specs.declared.Went.TheVariants.{Equal, Changed, Inside, Away}
use Rattle.origins.specs.Form.{Shape, gone_of, size_of, fate_byte, out_line, record_bytes, records_from, file_of}
use Rattle.origins.specs.Read.{line_in, fate_in, out_in, agree_by, fault_in, went_by, went_in, Said, says, wrong, said_by, read_from, read_file}
use Rattle.origins.specs.Answers.{fits_out, fits, fits_from}

-- ---- numbers

pub low-length : (w n : ℕ) → length (low_bytes w n) ≡ w
unfolding low_bytes
low-length zero n = refl
low-length (suc w) n = ap suc (low-length w (n / 256))

-- a number that fits reads back
pub number-back : (w n : ℕ) → n < 256 ^ w → word (low_bytes w n) ≡ n
unfolding low_bytes word
number-back zero n h = omega arith
number-back (suc w) n h = rw (number-back w (n / 256) (omega arith)) (omega arith)

-- bytes
abbrev pub is_byte : ℕ → Bool
is_byte b = ltb b 256

abbrev pub bytes : List ℕ → Bool
bytes s = all is_byte s

-- and bytes are written as they were read
pub bytes_back : (s : List ℕ) → bytes s ≡ true → low_bytes (length s) (word s) ≡ s
unfolding low_bytes word
bytes_back [] h = refl
bytes_back (x ∷ s) h =
    let k : x < 256 = ltb-true x 256 (and_left (is_byte x) (bytes s) h) in
    let q : (word s * 256 + x) % 256 ≡ x = omega arith in
    let r : (word s * 256 + x) / 256 ≡ word s = omega arith in
    rw (q, r) (ap (λ (t : List ℕ). x ∷ t) (bytes_back s (and_right (is_byte x) (bytes s) h)))

pub number-less : (s : List ℕ) → bytes s ≡ true → word s < 256 ^ length s
unfolding word
number-less [] h = omega arith
number-less (x ∷ s) h =
    let k : x < 256 = ltb-true x 256 (and_left (is_byte x) (bytes s) h) in
    let q = number-less s (and_right (is_byte x) (bytes s) h) in
    let g : word s * 256 + x < 256 ^ suc (length s) = omega arith in
    g

pub bytes_drop : (n : ℕ) (s : List ℕ) → bytes s ≡ true → bytes (drop n s) ≡ true
bytes_drop zero s h = h
bytes_drop (suc n) [] h = refl
bytes_drop (suc n) (x ∷ s) h = bytes_drop n s (and_right (is_byte x) (bytes s) h)

pub bytes_take : (n : ℕ) (s : List ℕ) → bytes s ≡ true → bytes (take n s) ≡ true
bytes_take zero s h = refl
bytes_take (suc n) [] h = refl
bytes_take (suc n) (x ∷ s) h = and_both (and_left (is_byte x) (bytes s) h) (bytes_take n s (and_right (is_byte x) (bytes s) h))

-- there is always a number
pub pow-some : (w : ℕ) → 0 < 256 ^ w
pow-some zero = omega arith
pow-some (suc w) = let h = pow-some w in omega arith

-- ---- one record, written

module _ (F : Shape) (i : ℕ) (w : Went) (rest : List ℕ) where
  abbrev whole : List ℕ
  whole = record_bytes F i w ++ rest

  pub record-length : length (record_bytes F i w) ≡ size_of F
  unfolding record_bytes
  record-length = omega (arith, length-append (low_bytes F.width i) (fate_byte w ∷ low_bytes F.width (out_line F w)), low-length F.width i, low-length F.width (out_line F w))

  behind-mark : drop 2 whole ≡ low_bytes F.width i ++ (fate_byte w ∷ (low_bytes F.width (out_line F w) ++ rest))
  unfolding record_bytes
  behind-mark = append_assoc (low_bytes F.width i) (fate_byte w ∷ low_bytes F.width (out_line F w)) rest

  line-back : i < 256 ^ F.width → line_in F whole ≡ i
  line-back h =
      ap (λ (s : List ℕ). word (take F.width s)) behind-mark
      ∙ ap word (take_at (low_bytes F.width i) (fate_byte w ∷ (low_bytes F.width (out_line F w) ++ rest)) F.width (low-length F.width i))
      ∙ number-back F.width i h

  fate-back : fate_in F whole ≡ fate_byte w
  fate-back =
      sym (get_or-drop 2 whole F.width 0)
      ∙ ap (λ (s : List ℕ). get_or s F.width 0) behind-mark
      ∙ ap (λ (k : ℕ). get_or (low_bytes F.width i ++ (fate_byte w ∷ (low_bytes F.width (out_line F w) ++ rest))) k 0) (sym (low-length F.width i))
      ∙ get_or-append_seam (low_bytes F.width i) (fate_byte w) (low_bytes F.width (out_line F w) ++ rest) 0

  behind-fate : drop (3 + F.width) whole ≡ low_bytes F.width (out_line F w) ++ rest
  behind-fate =
      let q : 3 + F.width ≡ 2 + (F.width + 1) = omega arith in
      ap (λ (k : ℕ). drop k whole) q
      ∙ sym (drop-drop (F.width + 1) 2 whole)
      ∙ ap (λ (s : List ℕ). drop (F.width + 1) s) behind-mark
      ∙ ap (λ (k : ℕ). drop (k + 1) (low_bytes F.width i ++ (fate_byte w ∷ (low_bytes F.width (out_line F w) ++ rest)))) (sym (low-length F.width i))
      ∙ drop-append-add (low_bytes F.width i) (fate_byte w ∷ (low_bytes F.width (out_line F w) ++ rest)) 1

  out-back : out_line F w < 256 ^ F.width → out_in F whole ≡ out_line F w
  out-back h =
      ap (λ (s : List ℕ). word (take F.width s)) behind-fate
      ∙ ap word (take_at (low_bytes F.width (out_line F w)) rest F.width (low-length F.width (out_line F w)))
      ∙ number-back F.width (out_line F w) h

  rest_back : drop (size_of F) whole ≡ rest
  rest_back = drop_at (record_bytes F i w) rest (size_of F) record-length

  -- a number that fits
  pub gone-less : gone_of F < 256 ^ F.width
  gone-less = omega (arith, pow-some F.width)

-- ---- what is written has no fault, and says what was written

fate-known : (w : Went) → ltb 3 (fate_byte w) ≡ false
unfolding fate_byte
fate-known (Equal n) = refl
fate-known (Changed n) = refl
fate-known (Inside n) = refl
fate-known Away = refl

out-less : (F : Shape) (w : Went) → fits_out F w ≡ true → out_line F w < 256 ^ F.width
unfolding out_line
out-less F (Equal n) h = omega (arith, ltb-true n (gone_of F) h)
out-less F (Changed n) h = omega (arith, ltb-true n (gone_of F) h)
out-less F (Inside n) h = omega (arith, ltb-true n (gone_of F) h)
out-less F Away h = omega (arith, pow-some F.width)

-- fate and output line agree
abbrev pub agree : ℕ → ℕ → ℕ → ℕ
agree k n g = agree_by (eqb k 3) (eqb n g)

out-agrees : (F : Shape) (w : Went) → fits_out F w ≡ true → agree (fate_byte w) (out_line F w) (gone_of F) ≡ 0
unfolding fate_byte out_line
out-agrees F (Equal n) h = let q : n < gone_of F = ltb-true n (gone_of F) h in rw (ne_eqb n (gone_of F) (omega arith))
out-agrees F (Changed n) h = let q : n < gone_of F = ltb-true n (gone_of F) h in rw (ne_eqb n (gone_of F) (omega arith))
out-agrees F (Inside n) h = let q : n < gone_of F = ltb-true n (gone_of F) h in rw (ne_eqb n (gone_of F) (omega arith))
out-agrees F Away h = rw (eq-eqb (gone_of F) (gone_of F) refl)

went_back : (F : Shape) (w : Went) → went_by (fate_byte w) (out_line F w) ≡ w
unfolding fate_byte out_line
went_back F (Equal n) = refl
went_back F (Changed n) = refl
went_back F (Inside n) = refl
went_back F Away = refl

-- by the parts of a record that are read
fault-by : (F : Shape) (i : ℕ) (s : List ℕ) (w : Went) → fits_out F w ≡ true → size_of F ≤ length s → get_or s 0 0 ≡ 79 → get_or s 1 0 ≡ F.letter →
    line_in F s ≡ i → fate_in F s ≡ fate_byte w → out_in F s ≡ out_line F w → fault_in F i s ≡ 0
unfolding fault_in
fault-by F i s w h k a b l f o =
    rw (le-ltb (length s) (size_of F) k, a, b, eq-eqb F.letter F.letter refl, l, eq-eqb i i refl, f, fate-known w, o)
    (out-agrees F w h)

module _ (F : Shape) (i : ℕ) (w : Went) (rest : List ℕ) (h : fits F i w ≡ true) where
  line-fits : i < 256 ^ F.width
  line-fits = omega (arith, leb-true i (gone_of F) (and_left (leb i (gone_of F)) (fits_out F w) h), pow-some F.width)

  out-fits : fits_out F w ≡ true
  out-fits = and_right (leb i (gone_of F)) (fits_out F w) h

  whole_long : size_of F ≤ length (record_bytes F i w ++ rest)
  whole_long = omega (arith, length-append (record_bytes F i w) rest, record-length F i w rest)

  first-mark : get_or (record_bytes F i w ++ rest) 0 0 ≡ 79
  unfolding record_bytes
  first-mark = refl

  second-mark : get_or (record_bytes F i w ++ rest) 1 0 ≡ F.letter
  unfolding record_bytes
  second-mark = refl

  pub fault-none : fault_in F i (record_bytes F i w ++ rest) ≡ 0
  fault-none = fault-by F i _ w out-fits whole_long first-mark second-mark (line-back F i w rest line-fits) (fate-back F i w rest) (out-back F i w rest (out-less F w out-fits))

  pub went-same : went_in F (record_bytes F i w ++ rest) ≡ w
  unfolding went_in
  went-same = rw (fate-back F i w rest, out-back F i w rest (out-less F w out-fits)) (went_back F w)

  whole-some : eqb (length (record_bytes F i w ++ rest)) 0 ≡ false
  whole-some = ne_eqb (length (record_bytes F i w ++ rest)) 0 (omega (arith, whole_long))

  pub read_one : (n : ℕ) → read_from F (suc n) i (record_bytes F i w ++ rest) ≡ said_by 0 i w (read_from F n (suc i) rest)
  unfolding read_from
  read_one n = rw (whole-some, fault-none, went-same, rest_back F i w rest)

-- what is written reads back
pub read-records : (F : Shape) (ws : List Went) (i n : ℕ) → fits_from F i ws ≡ true → length ws ≤ n → read_from F n i (records_from F i ws) ≡ says ws
unfolding records_from fits_from read_from said_by
read-records F [] i zero h k = refl
read-records F [] i (suc n) h k = refl
read-records F (w ∷ ws) i zero h k = absurd (omega arith)
read-records F (w ∷ ws) i (suc n) h k =
    read_one F i w (records_from F (suc i) ws) (and_left (fits F i w) (fits_from F (suc i) ws) h) n
    ∙ ap (said_by 0 i w) (read-records F ws (suc i) n (and_right (fits F i w) (fits_from F (suc i) ws) h) (omega arith))

times-le : (n k : ℕ) → n ≤ (1 + k) * n
times-le n k = let q : (1 + k) * n ≡ 1 * n + k * n = add-mul 1 k n in omega arith

pub records-length : (F : Shape) (ws : List Went) (i : ℕ) → length (records_from F i ws) ≡ size_of F * length ws
unfolding records_from
records-length F [] i = omega arith
records-length F (w ∷ ws) i =
    let q : size_of F * suc (length ws) ≡ size_of F * length ws + size_of F = mul-suc (size_of F) (length ws) in
    let r = records-length F ws (suc i) in
    omega (arith, length-append (record_bytes F i w) (records_from F (suc i) ws), record-length F i w [], q)

-- Reading what was written returns the same records
pub read-file : (F : Shape) (ws : List Went) → fits_from F 0 ws ≡ true → read_file F (file_of F ws) ≡ says ws
unfolding read_file file_of
read-file F ws h = read-records F ws 0 (length (records_from F 0 ws)) h (le_trans (times-le (length ws) (2 + (F.width + F.width))) (le_of_eq (ap (λ (k : ℕ). k * length ws) (omega arith) ∙ sym (records-length F ws 0))))

-- ---- what was read is written as it was

-- a record whose tests all pass
pub record Good (F : Shape) (i : ℕ) (s : List ℕ) : Type 0 where
  pub long : size_of F ≤ length s
  pub first : get_or s 0 0 ≡ 79
  pub second : get_or s 1 0 ≡ F.letter
  pub line : line_in F s ≡ i
  pub known : fate_in F s ≤ 3
  pub agrees : agree (fate_in F s) (out_in F s) (gone_of F) ≡ 0

two-eq : (a b x y : ℕ) → not (eqb a x && eqb b y) ≡ false → (a ≡ x) × (b ≡ y)
two-eq a b x y h =
    let q : eqb a x && eqb b y ≡ true = not-false _ h in
    (eqb-true a x (and_left (eqb a x) (eqb b y) q), eqb-true b y (and_right (eqb a x) (eqb b y) q))

-- where a chain of tests gives 0, the first test failed and the rest gives 0
chain : (t : Bool) (c x : ℕ) → cond t (suc c) x ≡ 0 → (t ≡ false) × (x ≡ 0)
chain true c x h = absurd (omega arith)
chain false c x h = (refl, h)

pub good_of : (F : Shape) (i : ℕ) (s : List ℕ) → fault_in F i s ≡ 0 → Good F i s
unfolding fault_in
good_of F i s h =
    let p = chain (ltb (length s) (size_of F)) 0 _ h in
    let q = chain (not (eqb (get_or s 0 0) 79 && eqb (get_or s 1 0) F.letter)) 1 _ p.1 in
    let r = chain (not (eqb (line_in F s) i)) 2 _ q.1 in
    let t = chain (ltb 3 (fate_in F s)) 3 _ r.1 in
    let m = two-eq (get_or s 0 0) (get_or s 1 0) 79 F.letter q.0 in
    record {
      long = ltb-false (length s) (size_of F) p.0;
      first = m.0;
      second = m.1;
      line = eqb-true (line_in F s) i (not-false _ r.0);
      known = ltb-false 3 (fate_in F s) t.0;
      agrees = t.1;
    }

-- the fate and the output line of what a record says
fate-again : (k n : ℕ) → k ≤ 3 → fate_byte (went_by k n) ≡ k
unfolding fate_byte
fate-again k n h = go (eqb k 0) refl (eqb k 1) refl (eqb k 2) refl
  where
    go : (a : Bool) → eqb k 0 ≡ a → (b : Bool) → eqb k 1 ≡ b → (c : Bool) → eqb k 2 ≡ c → fate_byte (cond a (Equal n) (cond b (Changed n) (cond c (Inside n) Away))) ≡ k
    go true e b f c g = sym (eqb-true k 0 e)
    go false e true f c g = sym (eqb-true k 1 f)
    go false e false f true g = sym (eqb-true k 2 g)
    go false e false f false g = let p = eqb-false k 0 e in let q = eqb-false k 1 f in let r = eqb-false k 2 g in omega arith

agree-gone : (F : Shape) (k n : ℕ) → agree k n (gone_of F) ≡ 0 → k ≡ 3 → n ≡ gone_of F
agree-gone F k n h q = go (eqb k 3) (eq-eqb k 3 q) (eqb n (gone_of F)) refl h
  where
    go : (a : Bool) → a ≡ true → (b : Bool) → eqb n (gone_of F) ≡ b → agree_by a b ≡ 0 → n ≡ gone_of F
    go true p true e z = eqb-true n (gone_of F) e
    go true p false e z = absurd (omega arith)
    go false p b e z = no p

agree-not : (F : Shape) (k n : ℕ) → agree k n (gone_of F) ≡ 0 → (k ≡ 3 → ⊥) → (n ≡ gone_of F → ⊥)
agree-not F k n h q = go (eqb k 3) (ne_eqb k 3 q) (eqb n (gone_of F)) refl h
  where
    go : (a : Bool) → a ≡ false → (b : Bool) → eqb n (gone_of F) ≡ b → agree_by a b ≡ 0 → n ≡ gone_of F → ⊥
    go true p b e z = no (sym p)
    go false p true e z = absurd (omega arith)
    go false p false e z = eqb-false n (gone_of F) e

out-again : (F : Shape) (k n : ℕ) → k ≤ 3 → agree k n (gone_of F) ≡ 0 → out_line F (went_by k n) ≡ n
unfolding out_line
out-again F k n h z = go (eqb k 0) refl (eqb k 1) refl (eqb k 2) refl
  where
    go : (a : Bool) → eqb k 0 ≡ a → (b : Bool) → eqb k 1 ≡ b → (c : Bool) → eqb k 2 ≡ c → out_line F (cond a (Equal n) (cond b (Changed n) (cond c (Inside n) Away))) ≡ n
    go true e b f c g = refl
    go false e true f c g = refl
    go false e false f true g = refl
    go false e false f false g = let p = eqb-false k 0 e in let q = eqb-false k 1 f in let r = eqb-false k 2 g in sym (agree-gone F k n z (omega arith))

-- a record is its parts
parts-of : (w : ℕ) (s : List ℕ) → 3 + (w + w) ≤ length s →
    take (3 + (w + w)) s ≡ get_or s 0 0 ∷ get_or s 1 0 ∷ take w (drop 2 s) ++ (get_or s (2 + w) 0 ∷ take w (drop (3 + w) s))
parts-of w [] h = absurd (omega arith)
parts-of w (x ∷ []) h = absurd (omega arith)
parts-of w (x ∷ y ∷ s) h =
    let q : 3 + (w + w) ≡ suc (suc (w + (1 + w))) = omega arith in
    let k : 2 + w ≡ suc (suc w) = omega arith in
    let m : 3 + w ≡ suc (suc (w + 1)) = omega arith in
    ap (λ (n : ℕ). take n (x ∷ y ∷ s)) q
    ∙ ap (λ (t : List ℕ). x ∷ y ∷ t)
    (take-add w (1 + w) s
    ∙ ap (λ (t : List ℕ). take w s ++ t)
    (ap (λ (t : List ℕ). take (1 + w) t) (drop-cons s w 0 (omega arith)) ∙ ap (λ (n : ℕ). take n (get_or s w 0 ∷ drop (suc w) s)) one_more
    ∙ ap (λ (t : List ℕ). get_or s w 0 ∷ take w t) (ap (λ (n : ℕ). drop n s) next_one)))
    ∙ rw (k, m)
  where
    one_more : 1 + w ≡ suc w
    one_more = omega arith

    next_one : suc w ≡ w + 1
    next_one = omega arith

module _ (F : Shape) (i : ℕ) (s : List ℕ) (g : Good F i s) (b : bytes s ≡ true) where
  line-long : length (take F.width (drop 2 s)) ≡ F.width
  line-long = omega (arith, length-take F.width (drop 2 s), length-drop 2 s, g.long)

  out-long : length (take F.width (drop (3 + F.width) s)) ≡ F.width
  out-long = omega (arith, length-take F.width (drop (3 + F.width) s), length-drop (3 + F.width) s, g.long)

  line-bytes : bytes (take F.width (drop 2 s)) ≡ true
  line-bytes = bytes_take F.width (drop 2 s) (bytes_drop 2 s b)

  out-bytes : bytes (take F.width (drop (3 + F.width) s)) ≡ true
  out-bytes = bytes_take F.width (drop (3 + F.width) s) (bytes_drop (3 + F.width) s b)

  line_low : low_bytes F.width i ≡ take F.width (drop 2 s)
  line_low =
      ap (low_bytes F.width) (sym g.line)
      ∙ ap (λ (k : ℕ). low_bytes k (line_in F s)) (sym line-long)
      ∙ bytes_back (take F.width (drop 2 s)) line-bytes

  out-low : low_bytes F.width (out_line F (went_in F s)) ≡ take F.width (drop (3 + F.width) s)
  unfolding went_in
  out-low =
      ap (low_bytes F.width) (out-again F (fate_in F s) (out_in F s) g.known g.agrees)
      ∙ ap (λ (k : ℕ). low_bytes k (out_in F s)) (sym out-long)
      ∙ bytes_back (take F.width (drop (3 + F.width) s)) out-bytes

  fate-low : fate_byte (went_in F s) ≡ fate_in F s
  unfolding went_in
  fate-low = fate-again (fate_in F s) (out_in F s) g.known

  -- its bytes
  pub record_same : record_bytes F i (went_in F s) ≡ take (size_of F) s
  unfolding record_bytes
  record_same = rw (line_low, out-low, fate-low, ← g.first, ← g.second) (sym (parts-of F.width s g.long))

  -- and it can be written
  out-under : out_in F s < 256 ^ F.width
  out-under = let q = number-less (take F.width (drop (3 + F.width) s)) out-bytes in let k = out-long in subst (λ (n : ℕ). out_in F s < 256 ^ n) k q

  line-under : i < 256 ^ F.width
  line-under =
      let q = number-less (take F.width (drop 2 s)) line-bytes in
      subst (λ (n : ℕ). n < 256 ^ F.width) g.line (subst (λ (n : ℕ). line_in F s < 256 ^ n) line-long q)

  fits_by : (k n : ℕ) → n < 256 ^ F.width → agree k n (gone_of F) ≡ 0 → fits_out F (went_by k n) ≡ true
  fits_by k n u z = go (eqb k 0) refl (eqb k 1) refl (eqb k 2) refl
    where
      less : (k ≡ 3 → ⊥) → ltb n (gone_of F) ≡ true
      less q = let m = agree-not F k n z q in lt-ltb n (gone_of F) (omega arith)

      go : (a : Bool) → eqb k 0 ≡ a → (b : Bool) → eqb k 1 ≡ b → (c : Bool) → eqb k 2 ≡ c → fits_out F (cond a (Equal n) (cond b (Changed n) (cond c (Inside n) Away))) ≡ true
      go true e b f c h = let p = eqb-true k 0 e in less (omega arith)
      go false e true f c h = let p = eqb-true k 1 f in less (omega arith)
      go false e false f true h = let p = eqb-true k 2 h in less (omega arith)
      go false e false f false h = refl

  pub record-fits : fits F i (went_in F s) ≡ true
  unfolding went_in
  record-fits = and_both (le-leb i (gone_of F) (omega (arith, line-under))) (fits_by (fate_in F s) (out_in F s) out-under g.agrees)

-- what a file says, taken apart
pub unsay : {us vs : List Went} → says us ≡ says vs → us ≡ vs
unsay {us} {vs} h = ap out h
  where
    out : Said → List Went
    out (says ws) = ws
    out (wrong c j) = []

pub never : {A : Type 0} {c j : ℕ} {ws : List Went} → wrong c j ≡ says ws → A
never h = no (ap out h)
  where
    out : Said → Bool
    out (says ws) = true
    out (wrong c j) = false

-- what is claimed of the records ws and the bytes s
abbrev pub Again : Shape → ℕ → List Went → List ℕ → Type 0
Again F i ws s = (records_from F i ws ≡ s) × (fits_from F i ws ≡ true)

nothing : (t : List ℕ) → length t ≡ 0 → t ≡ []
nothing [] q = refl
nothing (x ∷ t) q = absurd (omega arith)

-- one record and the rest
module _ (F : Shape) (n i : ℕ) (s : List ℕ) (ws : List Went) (b : bytes s ≡ true)
    (rest : (vs : List Went) → Good F i s → read_from F n (suc i) (drop (size_of F) s) ≡ says vs → Again F (suc i) vs (drop (size_of F) s)) where
  again-more : (r : Said) → read_from F n (suc i) (drop (size_of F) s) ≡ r → Good F i s → said_by 0 i (went_in F s) r ≡ says ws → Again F i ws s
  unfolding records_from fits_from said_by
  again-more (says vs) e g z =
      let q : went_in F s ∷ vs ≡ ws = unsay z in
      let t = rest vs g e in
      rw (← q) ((ap (λ (r : List ℕ). record_bytes F i (went_in F s) ++ r) t.0 ∙ ap (λ (r : List ℕ). r ++ drop (size_of F) s) (record_same F i s g b) ∙ take-append-drop (size_of F) s), and_both (record-fits F i s g b) t.1)
  again-more (wrong c j) e g z = never z

  again-fault : (c : ℕ) → fault_in F i s ≡ c → said_by c i (went_in F s) (read_from F n (suc i) (drop (size_of F) s)) ≡ says ws → Again F i ws s
  unfolding said_by
  again-fault zero e z = again-more _ refl (good_of F i s e) z
  again-fault (suc c) e z = never z

  again-start : (t : Bool) → eqb (length s) 0 ≡ t → cond t (says []) (said_by (fault_in F i s) i (went_in F s) (read_from F n (suc i) (drop (size_of F) s))) ≡ says ws → Again F i ws s
  unfolding records_from fits_from
  again-start true e z = rw (← unsay z, nothing s (eqb-true (length s) 0 e)) (refl, refl)
  again-start false e z = again-fault (fault_in F i s) refl z

-- What was read is written as it was, and can be
pub write-records : (F : Shape) (n i : ℕ) (s : List ℕ) (ws : List Went) → length s ≤ n → bytes s ≡ true → read_from F n i s ≡ says ws → Again F i ws s
unfolding read_from records_from fits_from
write-records F zero i [] ws k b h = rw (← unsay h) (refl, refl)
write-records F zero i (x ∷ s) ws k b h = absurd (omega arith)
write-records F (suc n) i s ws k b h =
    again-start F n i s ws b
    (λ (vs : List Went) g e. write-records F n (suc i) (drop (size_of F) s) vs (omega (arith, length-drop (size_of F) s, g.long)) (bytes_drop (size_of F) s b) e)
    (eqb (length s) 0) refl h

pub write-file : (F : Shape) (s : List ℕ) (ws : List Went) → bytes s ≡ true → read_file F s ≡ says ws → (file_of F ws ≡ s) × (fits_from F 0 ws ≡ true)
unfolding read_file file_of
write-file F s ws b h = write-records F (length s) 0 s ws (omega arith) b h

pub file-length : (F : Shape) (ws : List Went) → length (file_of F ws) ≡ size_of F * length ws
unfolding file_of
file-length F ws = records-length F ws 0
