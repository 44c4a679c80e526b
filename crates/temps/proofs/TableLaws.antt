-- Laws of the tables of flags over the keys of temps. Assumes nothing.
use Rattle.std.proofs.Common.{◌≡◌, ℕ, zero, suc, ◌+◌, ◌-◌, ◌*◌, ◌^◌, ◌<◌, ◌≤◌, min, Bool, true, false, cond, not, ◌&&◌, ◌||◌, eqb, ltb, List, [], ◌∷◌, ◌++◌, length, get_or, take, drop, set, replicate, sym, refl, ap, ◌∙◌, add-one, arith, take-append-drop, drop_of_length-le, get_or-drop, drop-cons, ltb-true, le-ltb, lt-ltb, eq-eqb, ne_eqb, eqb-true}
use borrow.Author.Tests.{eqb-false}
use Rattle.lines.specs.Lf.{part, up_to, lines_of, parts_of, prefixed, same, ends_in}
use Rattle.lines.proofs.Compare.{same-eq, same_refl}
use Rattle.lines.proofs.Tests.{no, or-true, or-false, and-true, and-false, and_left}
use Rattle.lines.proofs.LfLaws.{lines-at, lines_end, part-more, part_none}
use Rattle.text.specs.Class.{is_name}
use Rattle.text.specs.Trim.{from_of, to_of, trim_of}
use Rattle.names.specs.Names.{decimal, temp_word, read_number, is_temp}
use Rattle.names.specs.Inner.Names.{zeros}
use Rattle.std.specs.declared.option.Option.{Option}
use Rattle.std.specs.declared.option.Option.TheVariants.{Some, None}
use Rattle.names.proofs.Texts.{after-number, after-read}
use Rattle.names.proofs.Decimal.{decimal-strip}
use Rattle.parse.specs.Parse.{let_word, body_of, is_let}
use Rattle.parse.proofs.PlainLine.{first_taken}
use Rattle.place.specs.Region.{var_word, const_word}
use Rattle.words.specs.Runs.{flush, runs_go, runs, count_by}
use Rattle.words.specs.Inner.Runs.{words_of}
use Rattle.words.proofs.Walk.{go-name, go-gap, go-none}
use Rattle.reading.specs.Assign.{is_assign, left_of}
use Rattle.slots.specs.Inner.Slots.{slot_of, entry_of, with_entry}
use Rattle.slots.proofs.SlotLaws.{Placed, slot_kept, entry_length, entry-same, entry_other}
use Rattle.temps.specs.Temps.{any_piece, declares, temp_reads, declared_in, temp_read}
use Rattle.temps.specs.Inner.Table.{key_by, key_of, flag_at, flag_pieces, flag_decl, flag_decls, skip_after, flag_run, flag_runs, flag_reads, flag_lines, any_flag, reads_if, flag_by, Tells, TellsOf}
use Rattle.temps.proofs.TempLaws.{reads-bind, reads-words}

-- ---- the key of a name

module _ (s : List ℕ) where
  pub key-other : prefixed temp_word s ≡ false → key_of s ≡ None
  unfolding key_of
  key-other e = rw e

  pub key-is : prefixed temp_word s ≡ true → {t : List ℕ} → t ≡ drop 1 s → (r : Option ℕ) → read_number t ≡ r → key_of s ≡ key_by (zeros t) r
  unfolding key_of
  key-is e p r q = rw (e, ← p, q)

-- what `key_of` answers, by what it calls
pub key-made : (s : List ℕ) → prefixed temp_word s ≡ true → {t : List ℕ} → t ≡ drop 1 s → {n : ℕ} → read_number t ≡ Some n → {z : ℕ} → z ≡ zeros t → {r : Option ℕ} → r ≡ key_by z (Some n) → r ≡ key_of s
key-made s e p {n} q y x = x ∙ ap (λ (z : ℕ). key_by z (Some n)) y ∙ sym (key-is s e p (Some n) q)

key-empty : key_of [] ≡ None
unfolding key_of prefixed
key-empty = refl

-- the arms of a key
module _ (n : ℕ) where
  pub key-bare : n < 2 ^ 63 → key_by 0 (Some n) ≡ Some n
  key-bare h = rw (lt-ltb n (2 ^ 63) h)

  pub key-high : 2 ^ 63 ≤ n → key_by 0 (Some n) ≡ None
  key-high h = rw (le-ltb n (2 ^ 63) h)

  module _ (z : ℕ) (p : z ≡ 0 → ⊥) where
    pub key-led : z < 63 → n < 2 ^ 57 → key_by z (Some n) ≡ Some (2 ^ 63 + ((2 ^ 57 + 633) * z + n))
    key-led g h = rw (ne_eqb z 0 p, lt-ltb z 63 g, lt-ltb n (2 ^ 57) h)

    pub key-long : 63 ≤ z → key_by z (Some n) ≡ None
    key-long g = rw (ne_eqb z 0 p, le-ltb z 63 g)

    pub key-great : 2 ^ 57 ≤ n → key_by z (Some n) ≡ None
    key-great h = rw (ne_eqb z 0 p, le-ltb n (2 ^ 57) h, and-false (ltb z 63))

-- a number is not none, and is one
none_of : {A : Type 0} (n : ℕ) → None ≡ Some n → A
none_of n h = no (ap some h)
  where
    some : Option ℕ → Bool
    some None = false
    some (Some n) = true

of_one : (m n : ℕ) → Some m ≡ Some n → m ≡ n
of_one m n h = ap worth h
  where
    worth : Option ℕ → ℕ
    worth None = 0
    worth (Some n) = n

-- what a key is of: z zeros and the number n
pub record Led (z n k : ℕ) : Type 0 where
  pub low : (z ≡ 0 → ⊥) → k ≡ 2 ^ 63 + ((2 ^ 57 + 633) * z + n)
  pub bare : z ≡ 0 → k ≡ n
  pub fits : z ≡ 0 → n < 2 ^ 63
  pub small : (z ≡ 0 → ⊥) → n < 2 ^ 57

key-by : (z n k : ℕ) → key_by z (Some n) ≡ Some k → Led z n k
key-by z n k h = go (eqb z 0) refl (ltb n (2 ^ 63)) refl (ltb z 63) refl (ltb n (2 ^ 57)) refl h
  where
    go : (a : Bool) → eqb z 0 ≡ a → (b : Bool) → ltb n (2 ^ 63) ≡ b → (c : Bool) → ltb z 63 ≡ c → (d : Bool) → ltb n (2 ^ 57) ≡ d → cond a (cond b (Some n) None) (cond (c && d) (Some (2 ^ 63 + ((2 ^ 57 + 633) * z + n))) None) ≡ Some k → Led z n k
    go true e true f c g d i h = record { low = λ p. absurd (p (eqb-true z 0 e)); bare = λ p. sym (of_one n k h); fits = λ p. ltb-true n (2 ^ 63) f; small = λ p. absurd (p (eqb-true z 0 e)) }
    go true e false f c g d i h = none_of k h
    go false e b f true g true i h = record { low = λ p. sym (of_one (2 ^ 63 + ((2 ^ 57 + 633) * z + n)) k h); bare = λ p. absurd (eqb-false z 0 e p); fits = λ p. absurd (eqb-false z 0 e p); small = λ p. ltb-true n (2 ^ 57) i }
    go false e b f true g false i h = none_of k h
    go false e b f false g d i h = none_of k h

-- two texts of one key have as many zeros, and one number
led-one : (z n y m k : ℕ) → Led z n k → Led y m k → (z ≡ y) × (n ≡ m)
led-one z n y m k p q = go (eqb z 0) refl (eqb y 0) refl
  where
    go : (a : Bool) → eqb z 0 ≡ a → (b : Bool) → eqb y 0 ≡ b → (z ≡ y) × (n ≡ m)
    go true e true f = let e₁ = eqb-true z 0 e in let f₁ = eqb-true y 0 f in (e₁ ∙ sym f₁, sym (p.bare e₁) ∙ q.bare f₁)
    go true e false f = let e₁ = eqb-true z 0 e in let f₁ = q.low (eqb-false y 0 f) in let g = p.fits e₁ in let h = p.bare e₁ in absurd (omega (arith, f₁, g, h))
    go false e true f = let f₁ = eqb-true y 0 f in let e₁ = p.low (eqb-false z 0 e) in let g = q.fits f₁ in let h = q.bare f₁ in absurd (omega (arith, e₁, g, h))
    go false e false f =
        let e₁ = p.low (eqb-false z 0 e) in
        let f₁ = q.low (eqb-false y 0 f) in
        let a = p.small (eqb-false z 0 e) in
        let b = q.small (eqb-false y 0 f) in
        let s : (2 ^ 57 + 633) * z + n ≡ (2 ^ 57 + 633) * y + m = omega (arith, e₁, f₁) in
        (omega (arith, a, b, s), omega (arith, a, b, s))

-- the zeros that lead are zeros
zeros-front : (ds : List ℕ) → take (zeros ds) ds ≡ replicate (zeros ds) 48
unfolding zeros
zeros-front [] = refl
zeros-front (x ∷ []) = refl
zeros-front (x ∷ d ∷ ds) = go (eqb x 48) refl (zeros-front (d ∷ ds))
  where
    go : (b : Bool) → eqb x 48 ≡ b → take (zeros (d ∷ ds)) (d ∷ ds) ≡ replicate (zeros (d ∷ ds)) 48 → take (cond b (suc (zeros (d ∷ ds))) 0) (x ∷ d ∷ ds) ≡ replicate (cond b (suc (zeros (d ∷ ds))) 0) 48
    go true e h = ap (λ (y : ℕ). y ∷ take (zeros (d ∷ ds)) (d ∷ ds)) (eqb-true x 48 e) ∙ ap (λ (l : List ℕ). 48 ∷ l) h
    go false e h = refl

-- a name with a key is those zeros and that number as it is printed
pub record Keyed (s : List ℕ) (k : ℕ) : Type 0 where
  pub zs : ℕ
  pub num : ℕ
  pub led : Led zs num k
  pub text : s ≡ temp_word ++ (replicate zs 48 ++ decimal num)

key-text : (s : List ℕ) (k : ℕ) → key_of s ≡ Some k → Keyed s k
key-text s k h = go (prefixed temp_word s) refl
  where
    by : prefixed temp_word s ≡ true → (r : Option ℕ) → read_number (drop 1 s) ≡ r → key_by (zeros (drop 1 s)) r ≡ Some k → Keyed s k
    by e None q h = none_of k h
    by e (Some n) q h = record {
      zs = zeros (drop 1 s);
      num = n;
      led = key-by (zeros (drop 1 s)) n k h;
      text =
          (after-read temp_word s n (after-number temp_word s e ∙ q)).0
          ∙ ap (λ (l : List ℕ). temp_word ++ l) (sym (take-append-drop (zeros (drop 1 s)) (drop 1 s)))
          ∙ ap (λ (l : List ℕ). temp_word ++ (l ++ drop (zeros (drop 1 s)) (drop 1 s))) (zeros-front (drop 1 s))
          ∙ ap (λ (l : List ℕ). temp_word ++ (replicate (zeros (drop 1 s)) 48 ++ l)) (sym (decimal-strip (drop 1 s) n q));
    }

    go : (b : Bool) → prefixed temp_word s ≡ b → Keyed s k
    go false e = none_of k (sym (key-other s e) ∙ h)
    go true e = by e (read_number (drop 1 s)) refl (sym (key-is s e refl (read_number (drop 1 s)) refl) ∙ h)

-- so two names of one key are one text
pub key_one : (s t : List ℕ) (k : ℕ) → key_of s ≡ Some k → key_of t ≡ Some k → s ≡ t
key_one s t k g h =
    let p = key-text s k g in
    let q = key-text t k h in
    let e = led-one p.zs p.num q.zs q.num k p.led q.led in
    p.text ∙ ap (λ (z : ℕ). temp_word ++ (replicate z 48 ++ decimal p.num)) e.0 ∙ ap (λ (n : ℕ). temp_word ++ (replicate q.zs 48 ++ decimal n)) e.1 ∙ sym q.text

-- down a table, from the place i on
module _ (s : List ℕ) (i : ℕ) where
  pub any_here : i < length s → get_or s i 0 ≡ 1 → any_flag (drop i s) ≡ true
  unfolding any_flag
  any_here h e = rw (drop-cons s i 0 h, eq-eqb (get_or s i 0) 1 e)

  pub any-on : i < length s → (get_or s i 0 ≡ 1 → ⊥) → any_flag (drop i s) ≡ any_flag (drop (i + 1) s)
  unfolding any_flag
  any-on h e = rw (add-one i, drop-cons s i 0 h, ne_eqb (get_or s i 0) 1 e)

  pub any-end : length s ≤ i → any_flag (drop i s) ≡ false
  unfolding any_flag
  any-end h = rw (drop_of_length-le s h)

-- ---- the loop over lines: F flags what is still to come, and G a trimmed line

pub record FlagInv (F : List (List ℕ) → List ℕ → List ℕ) (s d₀ d : List ℕ) (i : ℕ) : Type 0 where
  pub long : length d ≡ length d₀
  pub so_far : F (lines_of (drop i s)) d ≡ F (lines_of s) d₀

pub flag-start : (F : List (List ℕ) → List ℕ → List ℕ) (s d : List ℕ) → FlagInv F s d d 0
flag-start F s d = record { long = refl; so_far = refl }

module _ (F : List (List ℕ) → List ℕ → List ℕ) (G : List ℕ → List ℕ → List ℕ) (cons : (l : List ℕ) (ls : List (List ℕ)) (d : List ℕ) → F (l ∷ ls) d ≡ F ls (G (trim_of l) d)) (size : (t d : List ℕ) → length (G t d) ≡ length d) where
  flag-on : {s d₀ d : List ℕ} {i : ℕ} → FlagInv F s d₀ d i → (e j : ℕ) (w t d' : List ℕ) → i < length s → e ≡ i + up_to 10 (drop i s) → w ≡ part i e s → t ≡ trim_of w → d' ≡ G t d → j ≡ min (e + 1) (length s) → FlagInv F s d₀ d' j
  flag-on {s} {d₀} {d} {i} h e j w t d' k q p y x z = record {
    long = ap length x ∙ size t d ∙ h.long;
    so_far =
        ap (λ (n : ℕ). F (lines_of (drop n s)) d') z
        ∙ ap (F (lines_of (drop (min (e + 1) (length s)) s))) (x ∙ ap (λ (c : List ℕ). G c d) (y ∙ ap trim_of p))
        ∙ sym (ap (λ (ls : List (List ℕ)). F ls d) (lines-at s i e k q) ∙ cons (part i e s) (lines_of (drop (min (e + 1) (length s)) s)) d)
        ∙ h.so_far;
  }

  flag-done : (none : (d : List ℕ) → F [] d ≡ d) {s d₀ d : List ℕ} {i : ℕ} → FlagInv F s d₀ d i → length s ≤ i → d ≡ F (lines_of s) d₀
  flag-done none {s} {d₀} {d} {i} h k = sym (none d) ∙ ap (λ (ls : List (List ℕ)). F ls d) (sym (lines_end s i k)) ∙ h.so_far

pub set_past : (d : List ℕ) (v m : ℕ) → length d ≤ v → d ≡ set d v m
set_past [] v m h = refl
set_past (x ∷ d) zero m h = absurd (omega arith)
set_past (x ∷ d) (suc v) m h = ap (λ (l : List ℕ). x ∷ l) (set_past d v m (omega arith))

-- ---- a line that begins with `let ` and ends with `;`

module _ (t : List ℕ) where
  pub let_by : (b : Bool) → ltb 4 (length t) && (prefixed let_word t && ends_in 59 t) ≡ b → is_let t ≡ b
  unfolding is_let
  let_by b e = e

  pub let-long : is_let t ≡ true → 4 < length t
  unfolding is_let
  let-long e = ltb-true 4 (length t) (and_left (ltb 4 (length t)) (prefixed let_word t && ends_in 59 t) e)

let-first : (t : List ℕ) → (get_or t 0 0 ≡ 108 → ⊥) → is_let t ≡ false
unfolding is_let prefixed
let-first [] n = refl
let-first (x ∷ xs) n = rw (ne_eqb 108 x (λ e. n (sym e))) (and-false (ltb 4 (length (x ∷ xs))))

-- a line whose first byte that is no white space is no `l` is none
pub let-other : (l : List ℕ) (a : ℕ) → a ≡ from_of l → (get_or l a 0 ≡ 108 → ⊥) → is_let (trim_of l) ≡ false
unfolding trim_of
let-other l a p n =
    let r : List ℕ = drop (from_of l) l in
    let z : a ≡ from_of l + 0 = omega arith in
    let-first (trim_of l) (first_taken 108 (λ e. absurd (omega arith)) (to_of r) r (λ e. n (ap (λ (k : ℕ). get_or l k 0) z ∙ sym (get_or-drop (from_of l) l 0 0) ∙ e)))

module _ (own : List ℕ) where
  -- ---- a flag, at the key n of the temp x

  pub at_length : (r : Option ℕ) (d : List ℕ) → length (flag_at own r d) ≡ length d
  at_length None d = refl
  at_length (Some n) d = entry_length own d n 1

  set_tells : (m n : ℕ) (d : List ℕ) → Placed own n d → eqb (entry_of own n (with_entry own m 1 d)) 1 ≡ eqb m n || eqb (entry_of own n d) 1
  set_tells m n d h = go (eqb m n) refl
    where
      go : (t : Bool) → eqb m n ≡ t → eqb (entry_of own n (with_entry own m 1 d)) 1 ≡ t || eqb (entry_of own n d) 1
      go true e = eq-eqb _ 1 (ap (λ (v : ℕ). entry_of own n (with_entry own v 1 d)) (eqb-true m n e) ∙ entry-same own d n 1 h)
      go false e = ap (λ (v : ℕ). eqb v 1) (entry_other own d m 1 n h (eqb-false m n e))

  -- one test after the other
  swap : (a b c : Bool) → b || (a || c) ≡ (a || b) || c
  swap true true c = refl
  swap true false c = refl
  swap false true c = refl
  swap false false c = refl

  module _ (x : List ℕ) (n : ℕ) (q : key_of x ≡ Some n) where
    -- a name has the key of x exactly where it is x
    same_none : (r : List ℕ) → key_of r ≡ None → same r x ≡ false
    same_none r e = go (same r x) refl
      where
        go : (b : Bool) → same r x ≡ b → same r x ≡ false
        go false f = f
        go true f = none_of n (sym e ∙ ap key_of (same-eq r x f) ∙ q)

    same_number : (r : List ℕ) (m : ℕ) → key_of r ≡ Some m → eqb m n ≡ same r x
    same_number r m e = go (eqb m n) refl (same r x) refl
      where
        go : (a : Bool) → eqb m n ≡ a → (b : Bool) → same r x ≡ b → a ≡ b
        go true g true f = refl
        go true g false f =
            let z : r ≡ x = key_one r x n (e ∙ ap Some (eqb-true m n g)) q in
            sym (sym f ∙ ap (λ (l : List ℕ). same l x) z ∙ same_refl x)
        go false g true f = sym g ∙ eq-eqb m n (of_one m n (sym e ∙ ap key_of (same-eq r x f) ∙ q))
        go false g false f = refl

    at-tells : (r : List ℕ) (d : List ℕ) → Placed own n d → eqb (entry_of own n (flag_at own (key_of r) d)) 1 ≡ same r x || eqb (entry_of own n d) 1
    at-tells r d h = go (key_of r) refl
      where
        go : (s : Option ℕ) → key_of r ≡ s → eqb (entry_of own n (flag_at own s d)) 1 ≡ same r x || eqb (entry_of own n d) 1
        go None e = rw (same_none r e)
        go (Some m) e = set_tells m n d h ∙ ap (λ (b : Bool). b || eqb (entry_of own n d) 1) (same_number r m e)

  -- ---- the tables keep their length

  pieces-length : (ps : List (List ℕ)) (d : List ℕ) → length (flag_pieces own ps d) ≡ length d
  unfolding flag_pieces
  pieces-length [] d = refl
  pieces-length (p ∷ ps) d = pieces-length ps (flag_at own (key_of (trim_of p)) d) ∙ at_length (key_of (trim_of p)) d

  pub decl-length : (t d : List ℕ) → length (flag_decl own t d) ≡ length d
  unfolding flag_decl
  decl-length t d = go (is_let t)
    where
      go : (b : Bool) → length (cond b (flag_pieces own (parts_of 44 (body_of t)) d) d) ≡ length d
      go true = pieces-length (parts_of 44 (body_of t)) d
      go false = refl

  pub decls-length : (ls : List (List ℕ)) (d : List ℕ) → length (flag_decls own ls d) ≡ length d
  unfolding flag_decls
  decls-length [] d = refl
  decls-length (l ∷ ls) d = decls-length ls (flag_decl own (trim_of l) d) ∙ decl-length (trim_of l) d

  pub run_length : (x r : List ℕ) (k : Bool) (d : List ℕ) → length (flag_run own x r k d) ≡ length d
  unfolding flag_run
  run_length x r k d = go (k && same r x)
    where
      go : (b : Bool) → length (cond b d (flag_at own (key_of r) d)) ≡ length d
      go true = refl
      go false = at_length (key_of r) d

  runs-length : (x : List ℕ) (rs : List (List ℕ)) (k : Bool) (d : List ℕ) → length (flag_runs own x rs k d) ≡ length d
  unfolding flag_runs
  runs-length x [] k d = refl
  runs-length x (r ∷ rs) k d = runs-length x rs (skip_after x r k) (flag_run own x r k d) ∙ run_length x r k d

  pub reads-length : (t d : List ℕ) → length (flag_reads own t d) ≡ length d
  unfolding flag_reads
  reads-length t d = go (prefixed let_word t || (prefixed var_word t || prefixed const_word t))
    where
      go : (b : Bool) → length (cond b d (flag_runs own (left_of t) (runs t) (is_assign t) d)) ≡ length d
      go true = refl
      go false = runs-length (left_of t) (runs t) (is_assign t) d

  pub lines-length : (ls : List (List ℕ)) (d : List ℕ) → length (flag_lines own ls d) ≡ length d
  unfolding flag_lines
  lines-length [] d = refl
  lines-length (l ∷ ls) d = lines-length ls (flag_reads own (trim_of l) d) ∙ reads-length (trim_of l) d

  -- ---- declared temps

  module _ (x : List ℕ) (n : ℕ) (q : key_of x ≡ Some n) where
    pieces-tell : (ps : List (List ℕ)) (d : List ℕ) → Placed own n d → eqb (entry_of own n (flag_pieces own ps d)) 1 ≡ any_piece x ps || eqb (entry_of own n d) 1
    unfolding flag_pieces any_piece
    pieces-tell [] d h = refl
    pieces-tell (p ∷ ps) d h =
        pieces-tell ps (flag_at own (key_of (trim_of p)) d) (slot_kept own d (flag_at own (key_of (trim_of p)) d) n (at_length (key_of (trim_of p)) d) h)
        ∙ ap (λ (b : Bool). any_piece x ps || b) (at-tells x n q (trim_of p) d h)
        ∙ swap (same (trim_of p) x) (any_piece x ps) (eqb (entry_of own n d) 1)

    decl-tells : (t d : List ℕ) → Placed own n d → eqb (entry_of own n (flag_decl own t d)) 1 ≡ declares x t || eqb (entry_of own n d) 1
    unfolding flag_decl is_let declares
    decl-tells t d h = go (ltb 4 (length t)) (prefixed let_word t) (ends_in 59 t)
      where
        go : (a b c : Bool) → eqb (entry_of own n (cond (a && (b && c)) (flag_pieces own (parts_of 44 (body_of t)) d) d)) 1 ≡ (a && (b && (c && any_piece x (parts_of 44 (body_of t))))) || eqb (entry_of own n d) 1
        go true true true = pieces-tell (parts_of 44 (body_of t)) d h
        go true true false = refl
        go true false c = refl
        go false b c = refl

    decls-tell : (ls : List (List ℕ)) (d : List ℕ) → Placed own n d → eqb (entry_of own n (flag_decls own ls d)) 1 ≡ declared_in x ls || eqb (entry_of own n d) 1
    unfolding flag_decls declared_in
    decls-tell [] d h = refl
    decls-tell (l ∷ ls) d h =
        decls-tell ls (flag_decl own (trim_of l) d) (slot_kept own d (flag_decl own (trim_of l) d) n (decl-length (trim_of l) d) h)
        ∙ ap (λ (b : Bool). declared_in x ls || b) (decl-tells (trim_of l) d h)
        ∙ swap (declares x (trim_of l)) (declared_in x ls) (eqb (entry_of own n d) 1)

  -- ---- temps that are read

  -- how many runs are x, but for one where the left side l is x
  abbrev others : List ℕ → List ℕ → Bool → List (List ℕ) → ℕ
  others x l k rs = count_by (λ (r : List ℕ). same r x) rs - cond (k && same l x) 1 0

  some_more : (c : ℕ) (o : Bool) → ltb 0 c || (true || o) ≡ ltb 0 (suc c) || o
  some_more c o = let z : 0 < suc c = omega arith in or-true (ltb 0 c) ∙ sym (ap (λ (b : Bool). b || o) (lt-ltb 0 (suc c) z))

  less_none : (c : ℕ) → c - 0 ≡ c
  less_none c = omega arith

  less_one : (c : ℕ) → suc c - 1 ≡ c
  less_one c = omega arith

  module _ (x : List ℕ) (n : ℕ) (q : key_of x ≡ Some n) (l : List ℕ) where
    -- one run: c is how many are x of those after it, and o what stood there before
    step : (r : List ℕ) (c : ℕ) (o k a b e : Bool) → same r l ≡ a → same r x ≡ b → same l x ≡ e →
        ltb 0 (c - cond ((k && not a) && e) 1 0) || cond (k && a) o (b || o) ≡ ltb 0 (cond b (suc c) c - cond (k && e) 1 0) || o
    step r c o false a true e p s t = rw (less_none c, less_none (suc c)) (some_more c o)
    step r c o false a false e p s t = refl
    step r c o true true true true p s t = rw (less_none c, less_one c)
    step r c o true true true false p s t = no (sym t ∙ ap (λ (v : List ℕ). same v x) (sym (same-eq r l p)) ∙ s)
    step r c o true true false true p s t = no (sym s ∙ ap (λ (v : List ℕ). same v x) (same-eq r l p) ∙ t)
    step r c o true true false false p s t = refl
    step r c o true false true true p s t = no (sym p ∙ ap (λ (v : List ℕ). same v l) (same-eq r x s ∙ sym (same-eq l x t)) ∙ same_refl l)
    step r c o true false true false p s t = rw (less_none c, less_none (suc c)) (some_more c o)
    step r c o true false false e p s t = refl

    run-tells : (r : List ℕ) (k : Bool) (d : List ℕ) → Placed own n d → eqb (entry_of own n (flag_run own l r k d)) 1 ≡ cond (k && same r l) (eqb (entry_of own n d) 1) (same r x || eqb (entry_of own n d) 1)
    unfolding flag_run
    run-tells r k d h = go (k && same r l)
      where
        go : (b : Bool) → eqb (entry_of own n (cond b d (flag_at own (key_of r) d))) 1 ≡ cond b (eqb (entry_of own n d) 1) (same r x || eqb (entry_of own n d) 1)
        go true = refl
        go false = at-tells x n q r d h

    -- a run that is empty leaves the left side to be passed over, which matters to no temp
    skip_is : (r : List ℕ) (k : Bool) → skip_after l r k && same l x ≡ (k && not (same r l)) && same l x
    unfolding skip_after
    skip_is (y ∷ r) k = refl
    skip_is [] k = go (same [] l) refl
      where
        go : (a : Bool) → same [] l ≡ a → k && same l x ≡ (k && not a) && same l x
        go false e = ap (λ (b : Bool). b && same l x) (sym (and-true k))
        go true e =
            let z : same l x ≡ false = ap (λ (v : List ℕ). same v x) (sym (same-eq [] l e)) ∙ same_none x n q [] key-empty in
            ap (λ (b : Bool). k && b) z ∙ and-false k ∙ sym (ap (λ (b : Bool). (k && false) && b) z ∙ and-false (k && false))

    runs-tell : (rs : List (List ℕ)) (k : Bool) (d : List ℕ) → Placed own n d → eqb (entry_of own n (flag_runs own l rs k d)) 1 ≡ ltb 0 (others x l k rs) || eqb (entry_of own n d) 1
    unfolding flag_runs count_by
    runs-tell [] k d h = go (k && same l x)
      where
        go : (b : Bool) → eqb (entry_of own n d) 1 ≡ ltb 0 (0 - cond b 1 0) || eqb (entry_of own n d) 1
        go true = refl
        go false = refl
    runs-tell (r ∷ rs) k d h =
        let c : ℕ = count_by (λ (r : List ℕ). same r x) rs in
        runs-tell rs (skip_after l r k) (flag_run own l r k d) (slot_kept own d (flag_run own l r k d) n (run_length l r k d) h)
        ∙ ap (λ (b : Bool). ltb 0 (c - cond (skip_after l r k && same l x) 1 0) || b) (run-tells r k d h)
        ∙ ap (λ (b : Bool). ltb 0 (c - cond b 1 0) || cond (k && same r l) (eqb (entry_of own n d) 1) (same r x || eqb (entry_of own n d) 1)) (skip_is r k)
        ∙ step r c (eqb (entry_of own n d) 1) k (same r l) (same r x) (same l x) refl refl refl

  module _ (x : List ℕ) (n : ℕ) (q : key_of x ≡ Some n) (p : is_temp x ≡ true) where
    reads-tell : (t d : List ℕ) → Placed own n d → eqb (entry_of own n (flag_reads own t d)) 1 ≡ ltb 0 (temp_reads x t) || eqb (entry_of own n d) 1
    unfolding flag_reads
    reads-tell t d h = go (prefixed let_word t || (prefixed var_word t || prefixed const_word t)) refl
      where
        go : (b : Bool) → prefixed let_word t || (prefixed var_word t || prefixed const_word t) ≡ b →
            eqb (entry_of own n (cond b d (flag_runs own (left_of t) (runs t) (is_assign t) d))) 1 ≡ ltb 0 (temp_reads x t) || eqb (entry_of own n d) 1
        go true e = sym (ap (λ (m : ℕ). ltb 0 m || eqb (entry_of own n d) 1) (reads-bind x t e))
        go false e =
            runs-tell x n q (left_of t) (runs t) (is_assign t) d h
            ∙ sym (ap (λ (m : ℕ). ltb 0 m || eqb (entry_of own n d) 1) (reads-words x t e p (words_of x t) refl (is_assign t && same (left_of t) x) refl))

    lines-tell : (ls : List (List ℕ)) (d : List ℕ) → Placed own n d → eqb (entry_of own n (flag_lines own ls d)) 1 ≡ temp_read x ls || eqb (entry_of own n d) 1
    unfolding flag_lines temp_read
    lines-tell [] d h = refl
    lines-tell (l ∷ ls) d h =
        lines-tell ls (flag_reads own (trim_of l) d) (slot_kept own d (flag_reads own (trim_of l) d) n (reads-length (trim_of l) d) h)
        ∙ ap (λ (b : Bool). temp_read x ls || b) (reads-tell (trim_of l) d h)
        ∙ swap (ltb 0 (temp_reads x (trim_of l))) (temp_read x ls) (eqb (entry_of own n d) 1)

  -- ---- a table that was filled from zeros

  zeros-off : (k n : ℕ) → eqb (get_or (replicate {A = ℕ} k 0) n 0) 1 ≡ false
  zeros-off zero n = refl
  zeros-off (suc k) zero = refl
  zeros-off (suc k) (suc n) = zeros-off k n

  pub tells-declared : (ls : List (List ℕ)) (k : ℕ) (d : List ℕ) → d ≡ flag_decls own ls (replicate k 0) → Tells own (λ (x : List ℕ). declared_in x ls) d
  tells-declared ls k d e = λ x n p q h.
      let m : length d ≡ length (replicate {A = ℕ} k 0) = ap length e ∙ decls-length ls (replicate k 0) in
      ap (λ (l : List ℕ). eqb (entry_of own n l) 1) e
      ∙ decls-tell x n q ls (replicate k 0) (slot_kept own d (replicate k 0) n (sym m) h)
      ∙ ap (λ (b : Bool). declared_in x ls || b) (zeros-off k (slot_of (length (replicate {A = ℕ} k 0)) own n)) ∙ or-false (declared_in x ls)

  -- a flag that is set is one of them
  any_at : (d : List ℕ) (i : ℕ) → eqb (get_or d i 0) 1 ≡ true → any_flag d ≡ true
  unfolding any_flag
  any_at [] n h = no h
  any_at (x ∷ d) zero h = rw h
  any_at (x ∷ d) (suc n) h = ap (λ (b : Bool). eqb x 1 || b) (any_at d n h) ∙ or-true (eqb x 1)

  pub used-by : (c : List ℕ) (ls : List (List ℕ)) (d : List ℕ) (b : Bool) → any_flag c ≡ b → reads_if own c ls d ≡ cond b (flag_lines own ls d) d
  unfolding reads_if
  used-by c ls d b e = rw e

  used-length : (c : List ℕ) (ls : List (List ℕ)) (d : List ℕ) → length (reads_if own c ls d) ≡ length d
  unfolding reads_if
  used-length c ls d = go (any_flag c)
    where
      go : (b : Bool) → length (cond b (flag_lines own ls d) d) ≡ length d
      go true = lines-length ls d
      go false = refl

  pub tells-read : (ls : List (List ℕ)) (k : ℕ) (c d : List ℕ) → c ≡ flag_decls own ls (replicate k 0) → d ≡ reads_if own c ls (replicate k 0) →
      TellsOf own (λ (x : List ℕ). declared_in x ls) (λ (x : List ℕ). temp_read x ls) d
  tells-read ls k c d a e = λ x n p g q h.
      let m : Placed own n (replicate k 0) = slot_kept own d (replicate k 0) n (sym (ap length e ∙ used-length c ls (replicate k 0))) h in
      let t : eqb (entry_of own n c) 1 ≡ true = tells-declared ls k c a x n p q (slot_kept own (replicate k 0) c n (ap length a ∙ decls-length ls (replicate k 0)) m) ∙ g in
      ap (λ (l : List ℕ). eqb (entry_of own n l) 1) (e ∙ used-by c ls (replicate k 0) true (any_at c (slot_of (length c) own n) t))
      ∙ lines-tell x n q p ls (replicate k 0) m
      ∙ ap (λ (b : Bool). temp_read x ls || b) (zeros-off k (slot_of (length (replicate {A = ℕ} k 0)) own n)) ∙ or-false (temp_read x ls)

  -- what it says of a temp
  flag_is : (a b : Bool) → Some a ≡ Some b → a ≡ b
  flag_is a b h = ap worth h
    where
      worth : Option Bool → Bool
      worth None = false
      worth (Some b) = b

  flag-not : {A : Type 0} (b : Bool) → None ≡ Some b → A
  flag-not b h = no (ap some h)
    where
      some : Option Bool → Bool
      some None = false
      some (Some b) = true

  pub told : (f : List ℕ → Bool) (x d : List ℕ) (b : Bool) → ((n : ℕ) → key_of x ≡ Some n → Placed own n d → eqb (entry_of own n d) 1 ≡ f x) → (s : Option ℕ) → s ≡ key_of x → flag_by own s d ≡ Some b → b ≡ f x
  told f x d b t s q h = go s (sym q) h
    where
      at : (n : ℕ) → key_of x ≡ Some n → (s : Bool) → ltb (slot_of (length d) own n) (length d) ≡ s → cond s (Some (eqb (entry_of own n d) 1)) None ≡ Some b → b ≡ f x
      at n q true e h = sym (flag_is _ b h) ∙ t n q (ltb-true (slot_of (length d) own n) (length d) e)
      at n q false e h = flag-not b h

      go : (s : Option ℕ) → key_of x ≡ s → flag_by own s d ≡ Some b → b ≡ f x
      go None q h = flag-not b h
      go (Some n) q h = at n q (ltb (slot_of (length d) own n) (length d)) refl h

  -- ---- the loop over pieces: those that are left are still to be flagged

  pub record PiecesInv (ps left : List (List ℕ)) (d₀ d : List ℕ) : Type 0 where
    pub long : length d ≡ length d₀
    pub so_far : flag_pieces own left d ≡ flag_pieces own ps d₀

  pub pieces-start : {ps left : List (List ℕ)} (d : List ℕ) → left ≡ ps → PiecesInv ps left d d
  pieces-start d e = record { long = refl; so_far = ap (λ (qs : List (List ℕ)). flag_pieces own qs d) e }

  module _ {ps left : List (List ℕ)} {d₀ d : List ℕ} (h : PiecesInv ps left d₀ d) where
    pub pieces-on : {w t d' : List ℕ} {more : List (List ℕ)} → left ≡ w ∷ more → t ≡ trim_of w → d' ≡ flag_at own (key_of t) d → PiecesInv ps more d₀ d'
    unfolding flag_pieces
    pieces-on {t = t} {more = more} e z x = record {
      long = ap length x ∙ at_length (key_of t) d ∙ h.long;
      so_far =
          ap (flag_pieces own more) (x ∙ ap (λ (l : List ℕ). flag_at own (key_of l) d) z)
          ∙ sym (ap (λ (qs : List (List ℕ)). flag_pieces own qs d) e)
          ∙ h.so_far;
    }

    pub pieces_end : left ≡ [] → d ≡ flag_pieces own ps d₀
    unfolding flag_pieces
    pieces_end e = sym (ap (λ (qs : List (List ℕ)). flag_pieces own qs d) e) ∙ h.so_far

  -- ---- a declaration

  module _ (t d : List ℕ) where
    pub decl-not : (b : Bool) → is_let t ≡ b → flag_decl own t d ≡ cond b (flag_pieces own (parts_of 44 (body_of t)) d) d
    unfolding flag_decl
    decl-not b e = rw e

  decls-cons : (l : List ℕ) (ls : List (List ℕ)) (d : List ℕ) → flag_decls own (l ∷ ls) d ≡ flag_decls own ls (flag_decl own (trim_of l) d)
  unfolding flag_decls
  decls-cons l ls d = refl

  decls-none : (d : List ℕ) → flag_decls own [] d ≡ d
  unfolding flag_decls
  decls-none d = refl

  lines_cons : (l : List ℕ) (ls : List (List ℕ)) (d : List ℕ) → flag_lines own (l ∷ ls) d ≡ flag_lines own ls (flag_reads own (trim_of l) d)
  unfolding flag_lines
  lines_cons l ls d = refl

  lines_none : (d : List ℕ) → flag_lines own [] d ≡ d
  unfolding flag_lines
  lines_none d = refl

  module _ {s d₀ d : List ℕ} {i : ℕ} (h : FlagInv (flag_decls own) s d₀ d i) where
    pub decls-on : (e j : ℕ) (w t d' : List ℕ) → i < length s → e ≡ i + up_to 10 (drop i s) → w ≡ part i e s → t ≡ trim_of w → d' ≡ flag_decl own t d → j ≡ min (e + 1) (length s) → FlagInv (flag_decls own) s d₀ d' j
    decls-on = flag-on (flag_decls own) (flag_decl own) decls-cons decl-length h

    pub decls-done : length s ≤ i → d ≡ flag_decls own (lines_of s) d₀
    decls-done = flag-done (flag_decls own) (flag_decl own) decls-cons decl-length decls-none h

  module _ {s d₀ d : List ℕ} {i : ℕ} (h : FlagInv (flag_lines own) s d₀ d i) where
    pub lines-on : (e j : ℕ) (w t d' : List ℕ) → i < length s → e ≡ i + up_to 10 (drop i s) → w ≡ part i e s → t ≡ trim_of w → d' ≡ flag_reads own t d → j ≡ min (e + 1) (length s) → FlagInv (flag_lines own) s d₀ d' j
    lines-on = flag-on (flag_lines own) (flag_reads own) lines_cons reads-length h

    pub lines-done : length s ≤ i → d ≡ flag_lines own (lines_of s) d₀
    lines-done = flag-done (flag_lines own) (flag_reads own) lines_cons reads-length lines_none h

  -- ---- one run

  module _ (x r : List ℕ) (d : List ℕ) where
    pub run-empty : (k : Bool) → length r ≡ 0 → (k ≡ skip_after x r k) × (d ≡ flag_run own x r k d)
    unfolding skip_after flag_run
    run-empty k h = go r h
      where
        both : (b : Bool) → d ≡ cond b d d
        both true = refl
        both false = refl

        go : (r : List ℕ) → length r ≡ 0 → (k ≡ skip_after x r k) × (d ≡ cond (k && same r x) d (flag_at own (key_of r) d))
        go [] h = (refl, both (k && same [] x) ∙ ap (λ (v : Option ℕ). cond (k && same [] x) d (flag_at own v d)) (sym key-empty))
        go (y ∷ r) h = absurd (omega arith)

    skip-some : (k : Bool) → (length r ≡ 0 → ⊥) → skip_after x r k ≡ k && not (same r x)
    unfolding skip_after
    skip-some k h = go r h
      where
        go : (r : List ℕ) → (length r ≡ 0 → ⊥) → skip_after x r k ≡ k && not (same r x)
        go [] h = absurd (h refl)
        go (y ∷ r) h = refl

    pub run-free : (k : Bool) → k ≡ false → (length r ≡ 0 → ⊥) → (false ≡ skip_after x r k) × (flag_at own (key_of r) d ≡ flag_run own x r k d)
    unfolding flag_run
    run-free true e h = no (sym e)
    run-free false e h = (sym (skip-some false h), refl)

    pub run-left : (k : Bool) → k ≡ true → (length r ≡ 0 → ⊥) → same r x ≡ true → (false ≡ skip_after x r k) × (d ≡ flag_run own x r k d)
    unfolding flag_run
    run-left true q h e = (sym (skip-some true h ∙ ap not e), rw e)
    run-left false q h e = no q

    pub run-other : (k : Bool) → k ≡ true → (length r ≡ 0 → ⊥) → same r x ≡ false → (true ≡ skip_after x r k) × (flag_at own (key_of r) d ≡ flag_run own x r k d)
    unfolding flag_run
    run-other true q h e = (sym (skip-some true h ∙ ap not e), rw e)
    run-other false q h e = no q

  -- ---- the loop over a text: the run from a to i is open

  pub record RunsInv (x s d₀ d : List ℕ) (k₀ k : Bool) (a i : ℕ) : Type 0 where
    pub a≤ : a ≤ i
    pub i≤ : i ≤ length s
    pub long : length d ≡ length d₀
    pub so_far : flag_runs own x (runs_go (drop i s) (part a i s)) k d ≡ flag_runs own x (runs s) k₀ d₀

  runs-flush : (x cur : List ℕ) (rs : List (List ℕ)) (k : Bool) (d : List ℕ) → flag_runs own x (flush cur ++ rs) k d ≡ flag_runs own x rs (skip_after x cur k) (flag_run own x cur k d)
  unfolding flag_runs
  runs-flush x [] rs k d = let e = run-empty x [] d k refl in ap (λ (b : Bool). flag_runs own x rs b d) e.0 ∙ ap (flag_runs own x rs (skip_after x [] k)) e.1
  runs-flush x (y ∷ cur) rs k d = refl

  runs_last : (x cur : List ℕ) (k : Bool) (d : List ℕ) → flag_runs own x (flush cur) k d ≡ flag_run own x cur k d
  unfolding flag_runs
  runs_last x [] k d = (run-empty x [] d k refl).1
  runs_last x (y ∷ cur) k d = refl

  pub runs-start : (x s d : List ℕ) (k : Bool) → RunsInv x s d d k k 0 0
  unfolding runs
  runs-start x s d k = record { a≤ = omega arith; i≤ = omega arith; long = refl; so_far = refl }

  module _ {x s d₀ d : List ℕ} {k₀ k : Bool} {a i : ℕ} (h : RunsInv x s d₀ d k₀ k a i) where
    pub runs-name : i < length s → is_name (get_or s i 0) ≡ true → RunsInv x s d₀ d k₀ k a (i + 1)
    runs-name l e = record {
      a≤ = omega (arith, h.a≤);
      i≤ = omega arith;
      long = h.long;
      so_far =
          ap (λ (c : List ℕ). flag_runs own x (runs_go (drop (i + 1) s) c) k d) (part-more s a i h.a≤ l)
          ∙ ap (λ (n : ℕ). flag_runs own x (runs_go (drop n s) (part a i s ++ (get_or s i 0 ∷ []))) k d) (add-one i)
          ∙ ap (λ (r : List (List ℕ)). flag_runs own x r k d) (sym (go-name (get_or s i 0) (drop (suc i) s) (part a i s) e))
          ∙ ap (λ (l : List ℕ). flag_runs own x (runs_go l (part a i s)) k d) (sym (drop-cons s i 0 l))
          ∙ h.so_far;
    }

    module _ (w d' : List ℕ) (k' : Bool) (p : w ≡ part a i s) (y : k' ≡ skip_after x w k) (q : d' ≡ flag_run own x w k d) where
      pub run_long : length d' ≡ length d₀
      run_long = ap length q ∙ run_length x w k d ∙ h.long

      pub runs-gap : i < length s → is_name (get_or s i 0) ≡ false → RunsInv x s d₀ d' k₀ k' (i + 1) (i + 1)
      runs-gap l e = record {
        a≤ = omega arith;
        i≤ = omega arith;
        long = run_long;
        so_far =
            ap (λ (c : List ℕ). flag_runs own x (runs_go (drop (i + 1) s) c) k' d') (part_none s (i + 1))
            ∙ ap (λ (n : ℕ). flag_runs own x (runs_go (drop n s) []) k' d') (add-one i)
            ∙ ap (λ (b : Bool). flag_runs own x (runs_go (drop (suc i) s) []) b d') (y ∙ ap (λ (c : List ℕ). skip_after x c k) p)
            ∙ ap (flag_runs own x (runs_go (drop (suc i) s) []) (skip_after x (part a i s) k)) (q ∙ ap (λ (c : List ℕ). flag_run own x c k d) p)
            ∙ sym (runs-flush x (part a i s) (runs_go (drop (suc i) s) []) k d)
            ∙ ap (λ (r : List (List ℕ)). flag_runs own x r k d) (sym (go-gap (get_or s i 0) (drop (suc i) s) (part a i s) e))
            ∙ ap (λ (l : List ℕ). flag_runs own x (runs_go l (part a i s)) k d) (sym (drop-cons s i 0 l))
            ∙ h.so_far;
      }

      pub runs-end : length s ≤ i → d' ≡ flag_runs own x (runs s) k₀ d₀
      runs-end l =
          q ∙ ap (λ (c : List ℕ). flag_run own x c k d) p ∙ sym (runs_last x (part a i s) k d)
          ∙ ap (λ (r : List (List ℕ)). flag_runs own x r k d) (sym (go-none (part a i s)))
          ∙ ap (λ (l : List ℕ). flag_runs own x (runs_go l (part a i s)) k d) (sym (drop_of_length-le s l)) ∙ h.so_far

  -- ---- a trimmed line that may read

  skip-off : (x r : List ℕ) → skip_after x r false ≡ false
  unfolding skip_after
  skip-off x [] = refl
  skip-off x (y ∷ r) = refl

  free : (x y : List ℕ) (rs : List (List ℕ)) (d : List ℕ) → flag_runs own x rs false d ≡ flag_runs own y rs false d
  unfolding flag_runs flag_run
  free x y [] d = refl
  free x y (r ∷ rs) d = ap (λ (b : Bool). flag_runs own x rs b (flag_at own (key_of r) d)) (skip-off x r) ∙ free x y rs (flag_at own (key_of r) d) ∙ sym (ap (λ (b : Bool). flag_runs own y rs b (flag_at own (key_of r) d)) (skip-off y r))

  module _ (t d : List ℕ) where
    pub reads-binding : prefixed let_word t || (prefixed var_word t || prefixed const_word t) ≡ true → d ≡ flag_reads own t d
    unfolding flag_reads
    reads-binding e = rw e

    module _ (e : prefixed let_word t || (prefixed var_word t || prefixed const_word t) ≡ false) where
      pub reads-store : (x : List ℕ) → is_assign t ≡ true → x ≡ left_of t → flag_runs own x (runs t) true d ≡ flag_reads own t d
      unfolding flag_reads
      reads-store x a z = rw (e, a) (ap (λ (l : List ℕ). flag_runs own l (runs t) true d) z)

      pub reads-free : (x : List ℕ) → is_assign t ≡ false → flag_runs own x (runs t) false d ≡ flag_reads own t d
      unfolding flag_reads
      reads-free x a = rw (e, a) (free x (left_of t) (runs t) d)

  -- ---- what a table says of a name that has a key, at its place i

  module _ (s : Option ℕ) (d : List ℕ) (n : ℕ) (q : s ≡ Some n) {i : ℕ} (p : i ≡ slot_of (length d) own n) where
    pub by-here : i < length d → Some (eqb (get_or d i 0) 1) ≡ flag_by own s d
    by-here h =
        let g : slot_of (length d) own n < length d = omega (arith, p, h) in
        ap (λ (v : ℕ). Some (eqb (get_or d v 0) 1)) p ∙ sym (rw (q, lt-ltb (slot_of (length d) own n) (length d) g))

    pub by-past : length d ≤ i → None ≡ flag_by own s d
    by-past h = let g : length d ≤ slot_of (length d) own n = omega (arith, p, h) in sym (rw (q, le-ltb (slot_of (length d) own n) (length d) g))

  -- and what setting its flag leaves there
  module _ (n : ℕ) (d : List ℕ) {i : ℕ} (p : i ≡ slot_of (length d) own n) where
    pub flag-here : set d i 1 ≡ with_entry own n 1 d
    flag-here = ap (λ (v : ℕ). set d v 1) p

    pub flag-past : length d ≤ i → d ≡ with_entry own n 1 d
    flag-past h = set_past d i 1 h ∙ flag-here
