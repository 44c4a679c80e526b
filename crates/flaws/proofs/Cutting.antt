-- A well-formed text cut anywhere: well-formed, or bad where a sequence was cut. Assumes nothing.
use Prim.Native.Nat.{ℕ, zero, suc, ◌+◌}
use mathlib.Core.Path.{◌≡◌, refl, sym, ap, ◌∙◌}
use mathlib.Core.Bool.{Bool, true, false, cond, ◌&&◌, ◌||◌}
use mathlib.Core.List.{List, [], ◌∷◌, ◌++◌}
use native.Mathlib.Omega.{arith}
use borrow.Author.Tests.{leb-true, ltb-true}
use lib.Dec.{leb, ltb}
use lib.ListN.{length, take, drop}
use Rattle.lines.specs.Lf.{within}
use Rattle.lines.proofs.Tests.{no, and_left, and_right, and-false, is_below, is-above}
use Rattle.text.specs.Utf8Form.{begins, grammar, seq_by, seq_len, bad_or, scan, utf8_of, Utf8}
use Rattle.std.specs.declared.result.Result.TheVariants.{Ok, Err}
use Rattle.flaws.specs.declared.Flaw.TheVariants.{Cut}
use Rattle.flaws.specs.Flaws.{overlongs, outsides, any_begins, inside, any_inside, is_cut, flaw_of}
use Rattle.flaws.proofs.FlawLaws.{flaw-cut}

-- ---- one row

-- a row of a list and of its front: the same, or the front ends inside it
data RowTo (g : List (ℕ × ℕ)) (s r : List ℕ) : Type 0 where
  same : begins g (s ++ r) ≡ begins g s → RowTo g s r
  short : inside g s ≡ true → RowTo g s r

row_on : (g : ℕ × ℕ) (gs : List (ℕ × ℕ)) (x : ℕ) (xs r : List ℕ) (b : Bool) → within g.0 g.1 x ≡ b → RowTo gs xs r → RowTo (g ∷ gs) (x ∷ xs) r
row_on g gs x xs r true e (same h) = same (ap (λ (b : Bool). within g.0 g.1 x && b) h)
row_on g gs x xs r true e (short h) = short (ap (λ (b : Bool). b && inside gs xs) e ∙ h)
row_on g gs x xs r false e w = same (ap (λ (b : Bool). b && begins gs (xs ++ r)) e ∙ sym (ap (λ (b : Bool). b && begins gs xs) e))

row : (g : List (ℕ × ℕ)) (s r : List ℕ) → RowTo g s r
row [] s r = same refl
row (g ∷ gs) [] r = short refl
row (g ∷ gs) (x ∷ xs) r = row_on g gs x xs r (within g.0 g.1 x) refl (row gs xs r)

-- ---- the rows

pub data RowsTo (gs : List (List (ℕ × ℕ))) (s r : List ℕ) : Type 0 where
  sames : seq_by gs (s ++ r) ≡ seq_by gs s → RowsTo gs s r
  shorts : any_inside gs s ≡ true → RowsTo gs s r

pub or_right : (a b : Bool) → b ≡ true → (a || b) ≡ true
or_right true b h = refl
or_right false b h = h

rows_on : (g : List (ℕ × ℕ)) (gs : List (List (ℕ × ℕ))) (s r : List ℕ) → RowTo g s r → RowsTo gs s r → RowsTo (g ∷ gs) s r
rows_on g gs s r (short h) w = shorts (ap (λ (b : Bool). b || any_inside gs s) h)
rows_on g gs s r (same h) (shorts k) = shorts (or_right (inside g s) (any_inside gs s) k)
rows_on g gs s r (same h) (sames k) =
    sames (ap (λ (b : Bool). cond b (length g) (seq_by gs (s ++ r))) h ∙ ap (λ (n : ℕ). cond (begins g s) (length g) n) k)

pub rows : (gs : List (List (ℕ × ℕ))) (s r : List ℕ) → RowsTo gs s r
rows [] s r = sames refl
rows (g ∷ gs) s r = rows_on g gs s r (row g s r) (rows gs s r)

-- ---- what is inside one row begins with no other

-- no list is inside the first row and begins as the second
abbrev apart : List (ℕ × ℕ) → List (ℕ × ℕ) → Bool
apart [] h = true
apart (g ∷ gs) [] = false
apart (g ∷ gs) (h ∷ hs) = ltb g.1 h.0 || (ltb h.1 g.0 || apart gs hs)

abbrev apart_one : List (ℕ × ℕ) → List (List (ℕ × ℕ)) → Bool
apart_one g [] = true
apart_one g (h ∷ hs) = apart g h && apart_one g hs

abbrev apart_all : List (List (ℕ × ℕ)) → List (List (ℕ × ℕ)) → Bool
apart_all [] hs = true
apart_all (g ∷ gs) hs = apart_one g hs && apart_all gs hs

module _ (g h : ℕ × ℕ) (gs hs : List (ℕ × ℕ)) (x : ℕ) (xs : List ℕ) where
  pub apart_by : (a b c : Bool) → ltb g.1 h.0 ≡ a → ltb h.1 g.0 ≡ b → (a || (b || c)) ≡ true → within g.0 g.1 x ≡ true →
      (c ≡ true → begins hs xs ≡ false) → (within h.0 h.1 x && begins hs xs) ≡ false
  apart_by true b c p q k w ih =
      ap (λ (t : Bool). t && begins hs xs)
      (is_below h.0 h.1 x (omega (arith, ltb-true g.1 h.0 p, leb-true x g.1 (and_right (leb g.0 x) (leb x g.1) w))))
  apart_by false true c p q k w ih =
      ap (λ (t : Bool). t && begins hs xs)
      (is-above h.0 h.1 x (omega (arith, ltb-true h.1 g.0 q, leb-true g.0 x (and_left (leb g.0 x) (leb x g.1) w))))
  apart_by false false c p q k w ih = ap (λ (t : Bool). within h.0 h.1 x && t) (ih k) ∙ and-false (within h.0 h.1 x)

apart-law : (g h : List (ℕ × ℕ)) (s : List ℕ) → apart g h ≡ true → inside g s ≡ true → begins h s ≡ false
apart-law [] h s a i = no i
apart-law (g ∷ gs) [] s a i = no a
apart-law (g ∷ gs) (h ∷ hs) [] a i = refl
apart-law (g ∷ gs) (h ∷ hs) (x ∷ xs) a i =
    apart_by g h gs hs x xs (ltb g.1 h.0) (ltb h.1 g.0) (apart gs hs) refl refl a (and_left (within g.0 g.1 x) (inside gs xs) i)
    (λ k. apart-law gs hs xs k (and_right (within g.0 g.1 x) (inside gs xs) i))

one-begins : (g : List (ℕ × ℕ)) (hs : List (List (ℕ × ℕ))) (s : List ℕ) → apart_one g hs ≡ true → inside g s ≡ true → any_begins hs s ≡ false
one-begins g [] s a i = refl
one-begins g (h ∷ hs) s a i =
    ap (λ (b : Bool). b || any_begins hs s) (apart-law g h s (and_left (apart g h) (apart_one g hs) a) i) ∙ one-begins g hs s (and_right (apart g h) (apart_one g hs) a) i

any-begins : (gs hs : List (List (ℕ × ℕ))) (s : List ℕ) → apart_all gs hs ≡ true → any_inside gs s ≡ true → any_begins hs s ≡ false
any-begins [] hs s a i = no i
any-begins (g ∷ gs) hs s a i = go (inside g s) refl i (any-begins gs hs s (and_right (apart_one g hs) (apart_all gs hs) a))
  where
    go : (b : Bool) → inside g s ≡ b → (b || any_inside gs s) ≡ true → (any_inside gs s ≡ true → any_begins hs s ≡ false) → any_begins hs s ≡ false
    go true e k f = one-begins g hs s (and_left (apart_one g hs) (apart_all gs hs) a) e
    go false e k f = f k

pub none-long : (hs : List (List (ℕ × ℕ))) (s : List ℕ) → any_begins hs s ≡ false → seq_by hs s ≡ 0
none-long [] s h = refl
none-long (g ∷ gs) s h = go (begins g s) h (none-long gs s)
  where
    go : (b : Bool) → (b || any_begins gs s) ≡ false → (any_begins gs s ≡ false → seq_by gs s ≡ 0) → cond b (length g) (seq_by gs s) ≡ 0
    go true k f = no (sym k)
    go false k f = f k

-- ---- a cut sequence

module _ (s : List ℕ) (h : any_inside grammar s ≡ true) where
  pub cut-none : seq_len s ≡ 0
  unfolding seq_len
  cut-none = none-long grammar s (any-begins grammar grammar s refl h)

  pub cut-over : any_begins overlongs s ≡ false
  cut-over = any-begins grammar overlongs s refl h

  pub cut-outside : any_begins outsides s ≡ false
  cut-outside = any-begins grammar outsides s refl h

pub cut_inside : (l : List ℕ) → is_cut l ≡ true → any_inside grammar l ≡ true
unfolding is_cut
cut_inside [] h = no h
cut_inside (x ∷ xs) h = h

pub cut-is : (x : ℕ) (xs : List ℕ) → any_inside grammar (x ∷ xs) ≡ true → is_cut (x ∷ xs) ≡ true
unfolding is_cut
cut-is x xs h = h

-- the proper start of a sequence is that flaw, and no sequence begins there
pub cut-flaw : (x : ℕ) (xs : List ℕ) → is_cut (x ∷ xs) ≡ true → (seq_len (x ∷ xs) ≡ 0) × (flaw_of (x ∷ xs) ≡ Cut)
unfolding is_cut
cut-flaw x xs h = (cut-none (x ∷ xs) h, flaw-cut (x ∷ xs) (cut-over (x ∷ xs) h) (cut-outside (x ∷ xs) h) h)

-- ---- the scan

pub scan-by : (i x : ℕ) (xs : List ℕ) (n : ℕ) → seq_len (x ∷ xs) ≡ n → scan 0 i (x ∷ xs) ≡ bad_or n i (λ k. scan k (suc i) xs)
unfolding scan
scan-by i x xs n e = ap (λ (m : ℕ). bad_or m i (λ k. scan k (suc i) xs)) e

pub bad-valid : {A : Type 0} (i : ℕ) → ◌≡◌ {A = Utf8} (Err i) (Ok tt) → A
bad-valid {A} i e = no (ap is_bad e)
  where
    is_bad : Utf8 → Bool
    is_bad (Ok tt) = true
    is_bad (Err j) = false

-- what the scan of a front gives: nothing bad, or a place that is j bytes on, where a sequence was cut
data Scanned (k i : ℕ) (s : List ℕ) : Type 0 where
  fine : scan k i s ≡ Ok tt → Scanned k i s
  stops : (j m : ℕ) → m ≡ i + j → scan k i s ≡ Err m → is_cut (drop j s) ≡ true → flaw_of (drop j s) ≡ Cut → Scanned k i s

front-on : (k k' i x : ℕ) (xs : List ℕ) → scan k i (x ∷ xs) ≡ scan k' (suc i) xs → Scanned k' (suc i) xs → Scanned k i (x ∷ xs)
front-on k k' i x xs e (fine h) = fine (e ∙ h)
front-on k k' i x xs e (stops j m q h c f) = stops (suc j) m (omega (arith, q)) (e ∙ h) c f

module _ (i x : ℕ) (xs r : List ℕ) (ih : (k : ℕ) → scan k (suc i) (xs ++ r) ≡ Ok tt → Scanned k (suc i) xs) where
  front-seq : (n : ℕ) → seq_len (x ∷ (xs ++ r)) ≡ n → seq_len (x ∷ xs) ≡ n → scan 0 i (x ∷ (xs ++ r)) ≡ Ok tt → Scanned 0 i (x ∷ xs)
  front-seq zero e f v = bad-valid i (sym (scan-by i x (xs ++ r) zero e) ∙ v)
  front-seq (suc k) e f v = front-on 0 k i x xs (scan-by i x xs (suc k) f) (ih k (sym (scan-by i x (xs ++ r) (suc k) e) ∙ v))

  front-rows : RowsTo grammar (x ∷ xs) r → scan 0 i (x ∷ (xs ++ r)) ≡ Ok tt → Scanned 0 i (x ∷ xs)
  unfolding seq_len
  front-rows (sames e) v = front-seq (seq_len (x ∷ (xs ++ r))) refl (sym e) v
  front-rows (shorts h) v =
      let c = cut-flaw x xs (cut-is x xs h) in
      stops 0 i (omega arith) (scan-by i x xs 0 c.0) (cut-is x xs h) c.1

fronted : (k i : ℕ) (s r : List ℕ) → scan k i (s ++ r) ≡ Ok tt → Scanned k i s
unfolding scan
fronted k i [] r v = fine refl
fronted (suc k) i (x ∷ xs) r v = front-on (suc k) k i x xs refl (fronted k (suc i) xs r v)
fronted zero i (x ∷ xs) r v = front-rows i x xs r (λ k w. fronted k (suc i) xs r w) (rows grammar (x ∷ xs) r) v

-- ---- the law

-- a text is well-formed, or its first bad byte is where the rest is the proper start of a sequence, and the flaw is that
pub data CutShort (s : List ℕ) : Type 0 where
  whole : utf8_of s ≡ Ok tt → CutShort s
  cut_at : (i : ℕ) → utf8_of s ≡ Err i → is_cut (drop i s) ≡ true → flaw_of (drop i s) ≡ Cut → CutShort s

-- what stands in front of anything in a well-formed text
pub front-valid : (s r : List ℕ) → utf8_of (s ++ r) ≡ Ok tt → CutShort s
unfolding utf8_of
front-valid s r v = go (fronted 0 0 s r v)
  where
    go : Scanned 0 0 s → CutShort s
    go (fine h) = whole h
    go (stops j m q h c f) = let z : m ≡ j = omega (arith, q) in cut_at j (h ∙ ap Err z) c f

take-drop : (n : ℕ) (t : List ℕ) → take n t ++ drop n t ≡ t
take-drop zero t = refl
take-drop (suc n) [] = refl
take-drop (suc n) (x ∷ t) = ap (λ (w : List ℕ). x ∷ w) (take-drop n t)

-- a well-formed text cut anywhere
pub cut-valid : (t : List ℕ) (n : ℕ) → utf8_of t ≡ Ok tt → CutShort (take n t)
cut-valid t n v = front-valid (take n t) (drop n t) (ap utf8_of (take-drop n t) ∙ v)
