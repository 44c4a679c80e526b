-- A line and the same line with a CR behind it: trimmed alike, headers alike, with the same uses. Assumes nothing.
use Prim.Native.Nat.{ℕ, zero, suc, ◌+◌, ◌-◌, ◌≤◌, ◌<◌}
use mathlib.Core.Path.{◌≡◌, refl, sym, ap, ◌∙◌}
use mathlib.Core.Bool.{Bool, true, false, cond, not, ◌&&◌, ◌||◌}
use mathlib.Core.List.{List, [], ◌∷◌, ◌++◌}
use native.Mathlib.Omega.{arith}
use borrow.Author.Tests.{le-leb, eqb-true}
use lib.Dec.{eqb, leb}
use lib.ListN.{length, get_or, take, drop, replicate, length-append, length-replicate, drop_of_length-le}
use lib.Seq.{take-append-le, get_or-append-add}
use Rattle.lines.specs.Lf.{prefixed}
use Rattle.lines.specs.Inner.Lf.{lacks}
use Rattle.lines.proofs.Tests.{or-false}
use Rattle.lines.proofs.LfLaws.{lacks-cons}
use Rattle.text.specs.White.{is_white}
use Rattle.text.specs.Utf8Form.{seq_len}
use Rattle.text.specs.Trim.{white_char, white_head, or_on, lead, from_of, end_white, to_of, trim_end, trim_of}
use Rattle.text.proofs.Rows.{seq_len-fits}
use Rattle.text.proofs.Whites.{pick3, white-no, head-le, tail-ascii}
use Rattle.text.proofs.Trims.{to_of-le, back_on}
use Rattle.text.proofs.CharsEnd.{end-append}
use Rattle.parse.specs.Parse.{is_decl, parse_of, text_of}
use Rattle.words.specs.Runs.{runs_go, runs, count_by}
use Rattle.place.specs.Region.{function_word, var_word, let_head, const_word, class_word, let_phi, is_header}
use Rattle.reading.specs.Uses.{line_reads, line_stores, line_uses, used_in}
use Rattle.slots.specs.Inner.Slots.{slot_of, entry_of}
use Rattle.slots.proofs.SlotLaws.{slot-low, slot_kept}
use Rattle.decls.specs.Inner.Seen.{mark_runs, mark_line, mark_lines, Says}
use Rattle.decls.proofs.SeenLaws.{lines-length, says-new, zeros-most}
use Rattle.decls.proofs.TrimRuns.{back-runs}
use Rattle.decls.proofs.LineRuns.{line-runs-marked}
use Rattle.again.specs.Shed.{uncr}

-- ---- the front

-- a CR ends no longer white space
cr2 : (x : ℕ) → white_char (x ∷ 13 ∷ []) ≡ false
unfolding seq_len
cr2 x = let h : seq_len (x ∷ 13 ∷ []) ≤ 1 = seq_len-fits (x ∷ []) in white-no (x ∷ 13 ∷ []) (omega arith)

cr3 : (x y : ℕ) → white_char (x ∷ y ∷ 13 ∷ []) ≡ false
unfolding seq_len
cr3 x y = let h : seq_len (x ∷ y ∷ 13 ∷ []) ≤ 2 = seq_len-fits (x ∷ y ∷ []) in white-no (x ∷ y ∷ 13 ∷ []) (omega arith)

head-cr : (x : ℕ) (xs : List ℕ) → white_head (x ∷ xs ++ 13 ∷ []) ≡ white_head (x ∷ xs)
unfolding white_head
head-cr x [] = simp (cr2 x) (go (white_char (x ∷ [])))
  where
    go : (w : Bool) → pick3 w false false ≡ pick3 w w w
    go true = refl
    go false = refl
head-cr x (y ∷ []) = simp (cr3 x y) (go (white_char (x ∷ [])) (white_char (x ∷ y ∷ [])))
  where
    go : (v w : Bool) → pick3 v w false ≡ pick3 v w w
    go true w = refl
    go false true = refl
    go false false = refl
head-cr x (y ∷ z ∷ r) = refl

lead-one : lead 0 (13 ∷ []) ≡ 1
unfolding lead white_head white_char seq_len is_white
lead-one = refl

-- the white space at the front: it takes all, and the CR; or it ends before, and the CR is none of it
data LedTo (k : ℕ) (l : List ℕ) : Type 0 where
  ends : lead k l ≡ length l → lead k (l ++ 13 ∷ []) ≡ suc (length l) → LedTo k l
  stays : lead k l < length l → lead k (l ++ 13 ∷ []) ≡ lead k l → LedTo k l

led_on : (k n x : ℕ) (xs : List ℕ) → lead n (x ∷ xs) ≡ suc (lead k xs) → lead n (x ∷ xs ++ 13 ∷ []) ≡ suc (lead k (xs ++ 13 ∷ [])) → LedTo k xs → LedTo n (x ∷ xs)
led_on k n x xs p q (ends a b) = ends (p ∙ ap suc a) (q ∙ ap suc b)
led_on k n x xs p q (stays a b) = stays (omega (arith, p, a)) (q ∙ ap suc b ∙ sym p)

lead-by : (x : ℕ) (xs : List ℕ) (n : ℕ) → white_head (x ∷ xs) ≡ n → lead 0 (x ∷ xs) ≡ or_on n 0 (λ k. suc (lead k xs))
unfolding lead
lead-by x xs n e = ap (λ (m : ℕ). or_on m 0 (λ k. suc (lead k xs))) e

led-head : (x : ℕ) (xs : List ℕ) (n : ℕ) → white_head (x ∷ xs) ≡ n → n ≤ suc (length xs) → ((k : ℕ) → k ≤ length xs → LedTo k xs) → LedTo 0 (x ∷ xs)
led-head x xs zero e h f =
    let z = lead-by x xs zero e in
    stays (omega (arith, z)) (lead-by x (xs ++ 13 ∷ []) zero (head-cr x xs ∙ e) ∙ sym z)
led-head x xs (suc k) e h f = led_on k 0 x xs (lead-by x xs (suc k) e) (lead-by x (xs ++ 13 ∷ []) (suc k) (head-cr x xs ∙ e)) (f k (omega arith))

led-to : (k : ℕ) (l : List ℕ) → k ≤ length l → LedTo k l
unfolding lead
led-to zero [] h = ends refl lead-one
led-to (suc k) [] h = absurd (omega arith)
led-to (suc k) (x ∷ xs) h = led_on k (suc k) x xs refl refl (led-to k xs (omega arith))
led-to zero (x ∷ xs) h = led-head x xs (white_head (x ∷ xs)) refl (omega (arith, head-le (x ∷ xs) 0 (omega arith))) (λ k z. led-to k xs z)

-- ---- the end

white-cr : pick3 (is_white 13) false false ≡ 1
unfolding is_white
white-cr = refl

to-cr : (p : List ℕ) → to_of (p ++ 13 ∷ []) ≡ to_of p
unfolding to_of
to-cr p =
    let s : List ℕ = p ++ 13 ∷ [] in
    let l = length-append p (13 ∷ []) in
    let q : length s - 1 ≡ length p + 0 = omega arith in
    let q' : length s - 1 ≡ length p = omega arith in
    let c : 13 ≡ cond (leb 1 (length s)) (get_or s (length s - 1) 0) 0 = rw (le-leb 1 (length s) (omega arith), q) (sym (get_or-append-add p (13 ∷ []) 0 0)) in
    back_on s (length s) 1 (omega arith) (tail-ascii s (length s) 13 (omega arith) (omega arith) c (omega arith) ∙ white-cr) (omega arith)
    ∙ ap (end_white s 0) q'
    ∙ end-append p (13 ∷ []) 0 (length p) (omega arith)

end-cr : (p : List ℕ) → trim_end (p ++ 13 ∷ []) ≡ trim_end p
end-cr p = ap (λ (n : ℕ). take n (p ++ 13 ∷ [])) (to-cr p) ∙ take-append-le (to_of p) p (13 ∷ []) (to_of-le p)

drop-front : (n : ℕ) (l r : List ℕ) → n ≤ length l → drop n (l ++ r) ≡ drop n l ++ r
drop-front zero l r h = refl
drop-front (suc n) [] r h = absurd (omega arith)
drop-front (suc n) (x ∷ l) r h = drop-front n l r (omega arith)

-- trimmed alike
pub trim-cr : (l : List ℕ) → trim_of (l ++ 13 ∷ []) ≡ trim_of l
unfolding trim_of from_of
trim-cr l = go (led-to 0 l (omega arith))
  where
    go : LedTo 0 l → trim_end (drop (lead 0 (l ++ 13 ∷ [])) (l ++ 13 ∷ [])) ≡ trim_end (drop (lead 0 l) l)
    go (ends a b) =
        let n = length-append l (13 ∷ []) in
        let u : length (l ++ 13 ∷ []) ≤ lead 0 (l ++ 13 ∷ []) = omega (arith, b, n) in
        let v : length l ≤ lead 0 l = omega (arith, a) in
        ap trim_end (drop_of_length-le (l ++ 13 ∷ []) u ∙ sym (drop_of_length-le l v))
    go (stays a b) =
        ap (λ (n : ℕ). trim_end (drop n (l ++ 13 ∷ []))) b ∙ ap trim_end (drop-front (lead 0 l) l (13 ∷ []) (omega (arith, a))) ∙ end-cr (drop (lead 0 l) l)

-- ---- a header

pre-cr : (w l : List ℕ) → lacks 13 w ≡ true → prefixed w (l ++ 13 ∷ []) ≡ prefixed w l
unfolding prefixed
pre-cr [] l h = refl
pre-cr (x ∷ w) [] h = ap (λ (b : Bool). b && prefixed w []) (lacks-cons 13 x w h).0
pre-cr (x ∷ w) (y ∷ l) h = ap (λ (b : Bool). eqb x y && b) (pre-cr w l (lacks-cons 13 x w h).1)

abbrev heads : Bool → Bool → Bool → Bool → Bool → Bool → Bool
heads a b c d e f = not a && (b || (c || (d || (e || f))))

header_is : (l : List ℕ) → is_header l ≡ heads (prefixed let_phi l) (prefixed function_word l) (prefixed var_word l) (prefixed let_head l) (prefixed const_word l) (prefixed class_word l)
unfolding is_header
header_is l = refl

pub header-cr : (l : List ℕ) → is_header (l ++ 13 ∷ []) ≡ is_header l
unfolding lacks
header-cr l =
    header_is (l ++ 13 ∷ [])
    ∙ rw (pre-cr let_phi l refl, pre-cr function_word l refl, pre-cr var_word l refl, pre-cr let_head l refl, pre-cr const_word l refl, pre-cr class_word l refl) (sym (header_is l))

-- ---- uses

uses-none : (v : ℕ) (l : List ℕ) → is_decl (trim_of l) ≡ true → line_uses v l ≡ false
unfolding line_uses line_reads line_stores parse_of text_of runs runs_go count_by
uses-none v l e = rw e

-- the uses of a line that is no declaration are those of its runs
abbrev uses_by : ℕ → List (List ℕ) → Bool
uses_by v rs = eqb (entry_of [] v (mark_runs [] 1 rs (replicate (suc v) 0))) 1

lines-one : (m : ℕ) (l d : List ℕ) → mark_lines [] m (l ∷ []) d ≡ mark_line [] m l d
unfolding mark_lines
lines-one m l d = refl

used-one : (v : ℕ) (l : List ℕ) → used_in v (l ∷ []) ≡ line_uses v l
unfolding used_in
used-one v l = or-false (line_uses v l)

uses-runs : (v : ℕ) (l : List ℕ) → is_decl (trim_of l) ≡ false → line_uses v l ≡ uses_by v (runs l)
uses-runs v l e =
    let d : List ℕ = replicate (suc v) 0 in
    let s : Says [] 1 (l ∷ []) (mark_lines [] 1 (l ∷ []) d) = says-new [] 0 1 (l ∷ []) d (omega arith) (zeros-most (suc v)) in
    let n = length-replicate {A = ℕ} (suc v) 0 in
    let k : slot_of (length d) [] v < length d = omega (arith, n, slot-low (length d) [] v (omega (arith, n))) in
    sym (used-one v l) ∙ sym (s v (slot_kept [] d (mark_lines [] 1 (l ∷ []) d) v (lines-length [] 1 (l ∷ []) d) k))
    ∙ ap (λ (r : List ℕ). eqb (entry_of [] v r) 1) (lines-one 1 l d ∙ sym (line-runs-marked [] 1 l d e))

runs-cr : (l : List ℕ) → runs (l ++ 13 ∷ []) ≡ runs l
unfolding runs
runs-cr l = back-runs l (13 ∷ []) [] refl

pub uses-cr : (v : ℕ) (l : List ℕ) → line_uses v (l ++ 13 ∷ []) ≡ line_uses v l
uses-cr v l = go (is_decl (trim_of l)) refl
  where
    go : (b : Bool) → is_decl (trim_of l) ≡ b → line_uses v (l ++ 13 ∷ []) ≡ line_uses v l
    go true e = uses-none v (l ++ 13 ∷ []) (ap is_decl (trim-cr l) ∙ e) ∙ sym (uses-none v l e)
    go false e = uses-runs v (l ++ 13 ∷ []) (ap is_decl (trim-cr l) ∙ e) ∙ ap (uses_by v) (runs-cr l) ∙ sym (uses-runs v l e)

-- ---- a line that loses a CR

-- it lost none, or it was what is left with a CR behind it
pub data WithCr (l : List ℕ) : Type 0 where
  bare : uncr l ≡ l → WithCr l
  lost : l ≡ uncr l ++ 13 ∷ [] → WithCr l

uncr-on : (x y : ℕ) (l : List ℕ) → WithCr (y ∷ l) → WithCr (x ∷ y ∷ l)
unfolding uncr
uncr-on x y l (bare e) = bare (ap (λ (w : List ℕ). x ∷ w) e)
uncr-on x y l (lost e) = lost (ap (λ (w : List ℕ). x ∷ w) e)

uncr-last : (x : ℕ) (b : Bool) → eqb x 13 ≡ b → WithCr (x ∷ [])
unfolding uncr
uncr-last x true e = lost (ap (λ (n : ℕ). n ∷ []) (eqb-true x 13 e) ∙ sym (ap (λ (b : Bool). cond b [] (x ∷ []) ++ 13 ∷ []) e))
uncr-last x false e = bare (ap (λ (b : Bool). cond b [] (x ∷ [])) e)

pub uncr-by : (l : List ℕ) → WithCr l
unfolding uncr
uncr-by [] = bare refl
uncr-by (x ∷ []) = uncr-last x (eqb x 13) refl
uncr-by (x ∷ y ∷ l) = uncr-on x y l (uncr-by (y ∷ l))

module _ (l : List ℕ) where
  pub uncr-trim : trim_of (uncr l) ≡ trim_of l
  uncr-trim = go (uncr-by l)
    where
      go : WithCr l → trim_of (uncr l) ≡ trim_of l
      go (bare e) = ap trim_of e
      go (lost e) = sym (trim-cr (uncr l)) ∙ sym (ap trim_of e)

  pub uncr-header : is_header (uncr l) ≡ is_header l
  uncr-header = go (uncr-by l)
    where
      go : WithCr l → is_header (uncr l) ≡ is_header l
      go (bare e) = ap is_header e
      go (lost e) = sym (header-cr (uncr l)) ∙ sym (ap is_header e)

  pub uncr-uses : (v : ℕ) → line_uses v (uncr l) ≡ line_uses v l
  uncr-uses v = go (uncr-by l)
    where
      go : WithCr l → line_uses v (uncr l) ≡ line_uses v l
      go (bare e) = ap (line_uses v) e
      go (lost e) = sym (uses-cr v (uncr l)) ∙ sym (ap (line_uses v) e)

-- a line that ends in another byte loses nothing
pub uncr-semi : (w : List ℕ) → uncr (w ++ 59 ∷ []) ≡ w ++ 59 ∷ []
unfolding uncr
uncr-semi [] = refl
uncr-semi (x ∷ []) = refl
uncr-semi (x ∷ y ∷ w) = ap (λ (r : List ℕ). x ∷ r) (uncr-semi (y ∷ w))
