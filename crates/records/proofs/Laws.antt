-- Filling a slice of records from its front, and the record of the line at a place. Assumes nothing.
use Prim.Native.Nat.{ℕ, suc, ◌+◌, ◌-◌, ◌≤◌, ◌<◌, min}
use mathlib.Core.Path.{◌≡◌, refl, sym, ap, ◌∙◌, subst}
use mathlib.Core.Bool.{Bool, true, false, cond}
use mathlib.Core.List.{List, [], ◌∷◌, ◌++◌, append-nil}
use native.Mathlib.Omega.{arith}
use native.Mathlib.Numerals.{add-one}
use borrow.Author.Tests.{ltb-true, ltb-false}
use lib.ListN.{length, get_or, set, take, drop, length-drop, length-set, take-append-drop}
use lib.Seq.{append_snoc, take-suc-set, drop-set-lt, drop-drop, drop-cons, length-take-le}
use lib.Dec.{ltb}
use Rattle.lines.specs.Lf.{part, up_to, lines_of}
use Rattle.lines.proofs.LfLaws.{lines-at, lines_end, find-le}
use Rattle.place.specs.Region.{is_header}
use Rattle.records.specs.declared.LineRec.{LineRec}
use Rattle.records.specs.Inner.Records.{rec_at, records_go, records_of}

-- ---- a slice that is filled from its front

-- the first k records of d are the front of whole, of which rest is left, and the others are as in d₀
pub record Filling (whole rest d₀ d : List LineRec) (k : ℕ) : Type 0 where
  pub front : take k d ++ rest ≡ whole
  pub back : drop k d ≡ drop k d₀
  pub same : length d ≡ length d₀
  pub room : k + length rest ≤ length d₀

pub filling-start : (whole d : List LineRec) → length whole ≤ length d → Filling whole whole d d 0
filling-start whole d h = record { front = refl; back = refl; same = refl; room = omega arith }

pub filling-as : {whole rest rest' d₀ d : List LineRec} {k : ℕ} → rest ≡ rest' → Filling whole rest d₀ d k → Filling whole rest' d₀ d k
filling-as {whole} {rest} {rest'} {d₀} {d} {k} e f = subst (λ (x : List LineRec). Filling whole x d₀ d k) e f

pub filling-place : {whole rest d₀ d : List LineRec} {k : ℕ} {x : LineRec} → Filling whole (x ∷ rest) d₀ d k → k < length d
filling-place {rest = rest} {k = k} f = let r = f.room in let s = f.same in omega arith

pub filling-on : {whole rest d₀ d : List LineRec} {k : ℕ} (x : LineRec) → Filling whole (x ∷ rest) d₀ d k → Filling whole rest d₀ (set d k x) (k + 1)
filling-on {whole} {rest} {d₀} {d} {k} x f =
    let l : k < length d = filling-place f in
    let s : length d ≡ length d₀ = f.same in
    let r : k + length (x ∷ rest) ≤ length d₀ = f.room in
    record {
      front = ap (λ (n : ℕ). take n (set d k x) ++ rest) (add-one k) ∙ ap (λ (y : List LineRec). y ++ rest) (take-suc-set d k x l) ∙ append_snoc (take k d) x rest ∙ f.front;
      back = drop-set-lt (k + 1) d k x (omega arith) ∙ sym (drop-drop 1 k d) ∙ ap (drop 1) f.back ∙ drop-drop 1 k d₀;
      same = length-set d k x ∙ s;
      room = omega arith;
    }

pub filling-put : {whole rest d₀ d d' : List LineRec} {k : ℕ} {x : LineRec} → d' ≡ set d k x → Filling whole (x ∷ rest) d₀ d k → Filling whole rest d₀ d' (k + 1)
filling-put {whole} {rest} {d₀} {d} {d'} {k} {x} e f = subst (λ (y : List LineRec). Filling whole rest d₀ y (k + 1)) (sym e) (filling-on x f)

pub filling-end : {whole d₀ d : List LineRec} {k : ℕ} → Filling whole [] d₀ d k → (k ≡ length whole) × (d ≡ whole ++ drop (length whole) d₀)
filling-end {whole} {d₀} {d} {k} f =
    let w : take k d ≡ whole = sym (append-nil (take k d)) ∙ f.front in
    let z : k ≡ length whole = sym (length-take-le k d (let r = f.room in let s = f.same in omega arith)) ∙ ap length w in
    (z, sym (take-append-drop k d) ∙ ap (λ (y : List LineRec). y ++ drop k d) w ∙ ap (λ (y : List LineRec). whole ++ y) (f.back ∙ ap (λ (n : ℕ). drop n d₀) z))

-- ---- the records of the lines

records-many : (ls : List (List ℕ)) (bs : List ℕ) (i c : ℕ) → length ls ≤ length bs → length (records_go ls bs i c) ≡ length ls
unfolding records_go
records-many [] bs i c h = refl
records-many (l ∷ ls) [] i c h = absurd (omega (arith, h))
records-many (l ∷ ls) (b ∷ bs) i c h = ap suc (records-many ls bs (suc (i + length l)) (cond (is_header l) (suc c) c) (omega (arith, h)))

pub records-count : (ls : List (List ℕ)) (bs : List ℕ) → length ls ≤ length bs → length (records_of ls bs) ≡ length ls
unfolding records_of
records-count ls bs h = records-many ls bs 0 0 h

-- below the last line it does not matter where a line would begin
no_lines : (ls : List (List ℕ)) (bs : List ℕ) (a b c : ℕ) → ls ≡ [] → records_go ls bs a c ≡ records_go ls bs b c
unfolding records_go
no_lines ls bs a b c z = ap (λ (xs : List (List ℕ)). records_go xs bs a c) z ∙ ap (λ (xs : List (List ℕ)). records_go xs bs b c) (sym z)

next-by : (t bs : List ℕ) (e j c : ℕ) → j ≡ min (e + 1) (length t) → (b : Bool) → ltb e (length t) ≡ b → records_go (lines_of (drop j t)) bs (suc e) c ≡ records_go (lines_of (drop j t)) bs j c
next-by t bs e j c y true z = ap (λ (n : ℕ). records_go (lines_of (drop j t)) bs n c) (let l : e < length t = ltb-true e (length t) z in let w : suc e ≡ j = omega (arith, y, l) in w)
next-by t bs e j c y false z = no_lines (lines_of (drop j t)) bs (suc e) j c (lines_end t j (let l : length t ≤ e = ltb-false e (length t) z in omega (arith, y, l)))

pub next-line : (t bs : List ℕ) (e j c : ℕ) → j ≡ min (e + 1) (length t) → records_go (lines_of (drop j t)) bs (suc e) c ≡ records_go (lines_of (drop j t)) bs j c
next-line t bs e j c y = next-by t bs e j c y (ltb e (length t)) refl

-- the records of the lines from i on: that of the first, and those below
module _ (t bs : List ℕ) (i k c : ℕ) (l : k < length bs) (q : i < length t) (e : ℕ) (z : e ≡ i + up_to 10 (drop i t)) (j : ℕ) (y : j ≡ min (e + 1) (length t)) where
  ends : i + length (part i e t) ≡ e
  ends = let w = length-take-le (e - i) (drop i t) (let v = length-drop i t in let u = find-le 10 t i e (let p : i ≤ length t = omega arith in p) z in omega arith) in omega (arith, w, z)

  abbrev region : ℕ
  region = cond (is_header (part i e t)) (suc c) c

  pub records-here : records_go (lines_of (drop i t)) (drop k bs) i c ≡ rec_at i e region (get_or bs k 0) ∷ records_go (lines_of (drop j t)) (drop (k + 1) bs) j region
  unfolding records_go
  records-here =
      ap (λ (ls : List (List ℕ)). records_go ls (drop k bs) i c) (lines-at t i e q z ∙ ap (λ (v : ℕ). part i e t ∷ lines_of (drop v t)) (sym y))
      ∙ ap (λ (ys : List ℕ). records_go (part i e t ∷ lines_of (drop j t)) ys i c) (drop-cons bs k 0 l)
      ∙ ap (λ (v : ℕ). rec_at i v region (get_or bs k 0) ∷ records_go (lines_of (drop j t)) (drop (suc k) bs) (suc v) region) ends
      ∙ ap (λ (v : ℕ). rec_at i e region (get_or bs k 0) ∷ records_go (lines_of (drop j t)) (drop v bs) (suc e) region) (sym (add-one k))
      ∙ ap (λ (xs : List LineRec). rec_at i e region (get_or bs k 0) ∷ xs) (next-line t (drop (k + 1) bs) e j region y)
