-- What the other passes do to the weight: drop bytes, put a value for a name, promote a store, cut a text into lines. Assumes nothing.
use Prim.Native.Nat.{ℕ, zero, suc, ◌+◌, ◌≤◌}
use mathlib.Core.Path.{◌≡◌, refl, sym, ap, ◌∙◌}
use mathlib.Core.Bool.{Bool, true, false, cond, ◌&&◌, ◌||◌}
use mathlib.Core.List.{List, [], ◌∷◌, ◌++◌}
use native.Mathlib.Omega.{arith}
use borrow.Author.Tests.{eqb-true, ne_eqb}
use lib.ListN.{length, take, drop, take-append-drop}
use lib.Dec.{eqb}
use Rattle.text.specs.White.{is_white}
use Rattle.text.specs.Utf8Form.{seq_len}
use Rattle.text.specs.Trim.{white_char, white_head, lead, from_of, or_on}
use Rattle.lines.specs.Lf.{unlines, lines_of, cut_on, prefixed}
use Rattle.lines.specs.Steps.{drop_cr, split_lines}
use Rattle.parse.specs.Parse.{let_word}
use Rattle.names.specs.Names.{reg_text}
use Rattle.words.specs.Hits.{glue_left, glue_right, glued}
use Rattle.lines.specs.Acts.{Act, keep, become, into, gone, act, apply}
use Rattle.weight.specs.Inner.Weight.{spaced, extra, weight}
use Rattle.weight.proofs.Weigh.{extra-le, weight-append, weight-cut, weight-swap, weight-line, nothing}
use Rattle.weight.proofs.Pays.{Pays, done, step, pays}

white-space : (r : List ℕ) → white_head (32 ∷ r) ≡ 1
unfolding white_head white_char seq_len is_white
white-space r = refl

-- ---- bytes dropped: what is left weighs no more

pub data Sub : List ℕ → List ℕ → Type 0 where
  stop : Sub [] []
  stay : {a b : List ℕ} (x : ℕ) → Sub a b → Sub (x ∷ a) (x ∷ b)
  skip : {a b : List ℕ} (x : ℕ) → Sub a b → Sub a (x ∷ b)

zero-extra : (s : Bool) → extra false s ≡ 0
unfolding extra
zero-extra s = refl

pub sub_self : (a : List ℕ) → Sub a a
sub_self [] = stop
sub_self (x ∷ a) = stay x (sub_self a)

pub sub-none : (b : List ℕ) → Sub [] b
sub-none [] = stop
sub-none (x ∷ b) = skip x (sub-none b)

pub sub-append : {a b c d : List ℕ} → Sub a b → Sub c d → Sub (a ++ c) (b ++ d)
sub-append stop t = t
sub-append (stay x s) t = stay x (sub-append s t)
sub-append (skip x s) t = skip x (sub-append s t)

-- the first step drops each CR before an LF
drop-sub : (t : List ℕ) → Sub (drop_cr t) t
unfolding drop_cr
drop-sub [] = stop
drop-sub (x ∷ xs) = go (eqb x 13 && prefixed (10 ∷ []) xs) (drop-sub xs)
  where
    go : (b : Bool) → Sub (drop_cr xs) xs → Sub (cond b (drop_cr xs) (x ∷ drop_cr xs)) (x ∷ xs)
    go true h = skip x h
    go false h = stay x h

-- a value as it is put: in brackets or not
abbrev pub bracketed : Bool → List ℕ → List ℕ
bracketed true v = 40 ∷ v ++ 41 ∷ []
bracketed false v = v

-- a line without the white space at its front does not begin with a space
lead-clean : (k : ℕ) (l : List ℕ) → spaced (drop (lead k l) l) ≡ false
unfolding lead spaced
lead-clean k [] = refl
lead-clean (suc k) (x ∷ xs) = lead-clean k xs
lead-clean zero (x ∷ xs) = go (eqb x 32) refl (white_head (x ∷ xs)) refl (λ k. lead-clean k xs)
  where
    go : (b : Bool) → eqb x 32 ≡ b → (n : ℕ) → white_head (x ∷ xs) ≡ n → ((k : ℕ) → spaced (drop (lead k xs) xs) ≡ false) → spaced (drop (or_on n 0 (λ k. suc (lead k xs))) (x ∷ xs)) ≡ false
    go b e (suc k) w f = f k
    go false e zero w f = e
    go true e zero w f =
        let q = eqb-true x 32 e in
        let z : white_head (x ∷ xs) ≡ 1 = ap (λ (y : ℕ). white_head (y ∷ xs)) q ∙ white-space xs in
        absurd (omega arith)

pub from-clean : (l : List ℕ) → spaced (drop (from_of l) l) ≡ false
unfolding from_of
from-clean l = lead-clean 0 l

-- ---- laws for every weight of `{`: H is what each weighs more than another byte

module _ (H : ℕ) where
  sub_by : {a b : List ℕ} (c : Bool) → Sub a b → extra c (spaced a) + weight H a ≤ extra c (spaced b) + weight H b
  unfolding weight spaced
  sub_by c stop = omega arith
  sub_by c (stay x s) = let r = sub_by (eqb x 44) s in omega arith
  sub_by {a} c (skip {b = b} x s) = let r = sub_by false s in let e = extra-le c (spaced a) in let z = zero-extra (spaced a) in let y = zero-extra (spaced b) in omega arith

  pub sub-weight : {a b : List ℕ} → Sub a b → weight H a ≤ weight H b
  sub-weight {a} {b} s = let r = sub_by false s in let z = zero-extra (spaced a) in let y = zero-extra (spaced b) in omega arith

  -- ---- a text cut into lines: one LF more at most

  lines-by : (b : Bool) (x : ℕ) (xs : List ℕ) (ls : List (List ℕ)) → eqb x 10 ≡ b → spaced (unlines ls) ≡ spaced xs → weight H (unlines ls) ≤ weight H xs + 1 →
      (spaced (unlines (cut_on b x ls)) ≡ spaced (x ∷ xs)) × (weight H (unlines (cut_on b x ls)) ≤ weight H (x ∷ xs) + 1)
  unfolding cut_on unlines weight spaced extra
  lines-by true x xs ls e s h = let q = eqb-true x 10 e in (sym (ne_eqb x 32 (λ z. omega arith)), omega arith)
  lines-by false x xs [] e s h = let r : extra (eqb x 44) false ≡ extra (eqb x 44) (spaced xs) = ap (extra (eqb x 44)) s in (refl, omega arith)
  lines-by false x xs (l ∷ ls) e s h = let r : extra (eqb x 44) (spaced (unlines (l ∷ ls))) ≡ extra (eqb x 44) (spaced xs) = ap (extra (eqb x 44)) s in (refl, omega arith)

  lines-both : (t : List ℕ) → (spaced (unlines (lines_of t)) ≡ spaced t) × (weight H (unlines (lines_of t)) ≤ weight H t + 1)
  unfolding lines_of unlines weight spaced
  lines-both [] = (refl, omega arith)
  lines-both (x ∷ xs) = let r = lines-both xs in lines-by (eqb x 10) x xs (lines_of xs) refl r.0 r.1

  pub lines-weight : (t : List ℕ) → weight H (unlines (lines_of t)) ≤ weight H t + 1
  lines-weight t = (lines-both t).1

  -- ---- a value for a name, in brackets or not: the line grows by what the value weighs at most

  bracket-le : (b : Bool) (v : List ℕ) → weight H (bracketed b v) ≤ weight H v + 2
  unfolding weight spaced extra
  bracket-le true v = let r = weight-append H (40 ∷ v) (41 ∷ []) in omega arith
  bracket-le false v = omega arith

  pub absorb-le : (p : Bool) (a name v b : List ℕ) → spaced name ≡ false → 2 ≤ length name → weight H (a ++ (bracketed p v ++ b)) ≤ weight H (a ++ (name ++ b)) + weight H v
  absorb-le p a name v b h n = let r = weight-swap H a name (bracketed p v) b h (omega arith) in let s = bracket-le p v in omega arith

  -- ---- a store promoted: `let ` is 4

  pub promote-le : (l : List ℕ) → spaced (drop (from_of l) l) ≡ false → weight H (take (from_of l) l ++ let_word ++ drop (from_of l) l) ≤ weight H l + 4
  unfolding weight spaced extra
  promote-le l h =
      let a = weight-append H (take (from_of l) l ++ let_word) (drop (from_of l) l) in
      let b = weight-append H (take (from_of l) l) let_word in
      let c : weight H l ≡ weight H (take (from_of l) l) + weight H (drop (from_of l) l) =
      ap (weight H) (sym (take-append-drop (from_of l) l)) ∙ weight-cut H (take (from_of l) l) (drop (from_of l) l) h in
      omega arith

  -- ---- the first step: each CR before an LF goes, and at most one LF comes

  pub split-weight : (t : List ℕ) → weight H (unlines (split_lines t)) ≤ weight H t + 1
  unfolding split_lines
  split-weight t = let a = lines-weight (drop_cr t) in let b = sub-weight (drop-sub t) in omega arith

-- ---- credit for lines to come: the place n gets k

unfoldable pub credit : ℕ → ℕ → List ℕ → List ℕ
credit zero k [] = k ∷ []
credit zero k (d ∷ ds) = (d + k) ∷ ds
credit (suc n) k [] = 0 ∷ credit n k []
credit (suc n) k (d ∷ ds) = d ∷ credit n k ds

unfoldable pub sum : List ℕ → ℕ
sum [] = 0
sum (d ∷ ds) = d + sum ds

unfoldable pub due : List ℕ → ℕ
due [] = 0
due (d ∷ ds) = d

credit-sum : (n k : ℕ) (ds : List ℕ) → sum (credit n k ds) ≡ k + sum ds
unfolding credit sum
credit-sum zero k [] = omega arith
credit-sum zero k (d ∷ ds) = omega arith
credit-sum (suc n) k [] = let r = credit-sum n k [] in omega arith
credit-sum (suc n) k (d ∷ ds) = let r = credit-sum n k ds in omega arith

due-sum : (ds : List ℕ) → due ds + sum (drop 1 ds) ≡ sum ds
unfolding due sum
due-sum [] = omega arith
due-sum (d ∷ ds) = omega arith

-- what a line became weighs no more than the line and what was taken into it; ds is what was sent to this line and to each below
pub data Fits (H : ℕ) : List ℕ → List Act → List (List ℕ) → Type 0 where
  ended : {ds : List ℕ} → Fits H ds [] []
  kept : {ds : List ℕ} {more : List Act} {l : List ℕ} {ls : List (List ℕ)} → Fits H (drop 1 ds) more ls → Fits H ds (keep ∷ more) (l ∷ ls)
  became : {ds : List ℕ} {more : List Act} {l x : List ℕ} {ls : List (List ℕ)} → weight H x ≤ weight H l + due ds → Fits H (drop 1 ds) more ls → Fits H ds (become x ∷ more) (l ∷ ls)
  sent : {ds : List ℕ} {more : List Act} {l : List ℕ} {ls : List (List ℕ)} (n : ℕ) → Fits H (credit n (weight H l + 1 + due ds) (drop 1 ds)) more ls → Fits H ds (into (suc n) ∷ more) (l ∷ ls)
  dropped : {ds : List ℕ} {more : List Act} {l : List ℕ} {ls : List (List ℕ)} → Fits H (drop 1 ds) more ls → Fits H ds (gone ∷ more) (l ∷ ls)

pub fits-pays : {H : ℕ} {ds : List ℕ} {acts : List Act} {ls : List (List ℕ)} → Fits H ds acts ls → Pays H (sum ds) acts ls
unfolding act
fits-pays ended = done
fits-pays {H} {ds} (kept {l = l} f) =
    let a = due-sum ds in let b = weight-line H l [] in let z = nothing H in
    step {c = sum ds} {a = keep} {l = l} (sum (drop 1 ds)) (omega arith) (fits-pays f)
fits-pays {H} {ds} (became {l = l} {x = x} h f) =
    let a = due-sum ds in let b = weight-line H x [] in let z = nothing H in
    step {c = sum ds} {a = become x} {l = l} (sum (drop 1 ds)) (omega arith) (fits-pays f)
fits-pays {H} {ds} (sent {l = l} n f) =
    let a = due-sum ds in let b = credit-sum n (weight H l + 1 + due ds) (drop 1 ds) in let z = nothing H in
    step {c = sum ds} {a = into (suc n)} {l = l} (sum (credit n (weight H l + 1 + due ds) (drop 1 ds))) (omega arith) (fits-pays f)
fits-pays {H} {ds} (dropped {l = l} f) =
    let a = due-sum ds in let z = nothing H in
    step {c = sum ds} {a = gone} {l = l} (sum (drop 1 ds)) (omega arith) (fits-pays f)

pub fits-weight : {H : ℕ} {acts : List Act} {ls : List (List ℕ)} → Fits H [] acts ls → weight H (unlines (apply acts ls)) ≤ weight H (unlines ls)
unfolding sum
fits-weight f = let r = pays (fits-pays f) in omega arith

-- ---- a value in the place of a register

-- a value that would be glued stands in brackets
pub glued-is : (before rep after : List ℕ) → glued before rep after ≡ bracketed (glue_left before rep || glue_right rep after) rep
unfolding glued
glued-is before rep after = go (glue_left before rep || glue_right rep after)
  where
    go : (t : Bool) → cond t (40 ∷ rep ++ 41 ∷ []) rep ≡ bracketed t rep
    go true = refl
    go false = refl

-- a register is no white space
pub not-spaced : (v : ℕ) → spaced (reg_text v) ≡ false
unfolding spaced
not-spaced v = refl
