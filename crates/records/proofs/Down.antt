-- Going down the records of a text. Assumes nothing.
use Prim.Native.Nat.{ℕ, suc, ◌+◌, ◌≤◌, ◌<◌, min}
use mathlib.Core.Path.{◌≡◌, refl, sym, ap, ◌∙◌}
use mathlib.Core.Bool.{Bool, true, false, cond}
use mathlib.Core.List.{List, [], ◌∷◌, ◌++◌, append-nil}
use native.Mathlib.Omega.{arith}
use borrow.Author.Tests.{ltb-true, ltb-false}
use lib.Dec.{ltb}
use lib.ListN.{length, get_or, drop, length-drop}
use lib.Seq.{get_or-drop, drop-drop}
use Rattle.lines.specs.Lf.{part, up_to, lines_of}
use Rattle.lines.proofs.LfLaws.{lines-at, lines_end}
use Rattle.place.specs.Region.{is_header}
use Rattle.records.specs.declared.LineRec.{LineRec}
use Rattle.records.specs.Inner.Records.{no_rec, rec_at, records_go, records_of}
use Rattle.records.proofs.Laws.{records-count, records-here}

-- the records from the k-th on are those of the lines from i on, and c is the region above
pub record Down (t bs : List ℕ) (d : List LineRec) (i k c : ℕ) : Type 0 where
  pub rest : List LineRec
  pub left : drop k d ≡ records_go (lines_of (drop i t)) (drop k bs) i c ++ rest
  pub count : k + length (lines_of (drop i t)) ≡ length (lines_of t)
  pub blocks : length (lines_of t) ≤ length bs
  pub many : length (lines_of t) ≤ length d

pub down-start : {t bs : List ℕ} → length (lines_of t) ≤ length bs → Down t bs (records_of (lines_of t) bs) 0 0 0
unfolding records_of
down-start {t} {bs} h = record {
  rest = [];
  left = sym (append-nil (records_of (lines_of t) bs));
  count = omega arith;
  blocks = h;
  many = let e = records-count (lines_of t) bs h in omega arith;
}

module _ {t bs : List ℕ} {d : List LineRec} {i k c : ℕ} (h : Down t bs d i k c) where
  -- while there are records there are lines
  pub down-some : k < length (lines_of t) → i < length t
  down-some l = some-by (ltb i (length t)) refl
    where
      some-by : (b : Bool) → ltb i (length t) ≡ b → i < length t
      some-by true w = ltb-true i (length t) w
      some-by false w = absurd (let n = ap length (lines_end t i (ltb-false i (length t) w)) in let a = h.count in omega arith)

  -- and while there are lines there are records
  pub down-none : length (lines_of t) ≤ k → length t ≤ i
  down-none l = none-by (ltb i (length t)) refl
    where
      none-by : (b : Bool) → ltb i (length t) ≡ b → length t ≤ i
      none-by true w = absurd (let n = ap length (lines-at t i (i + up_to 10 (drop i t)) (ltb-true i (length t) w) refl) in let a = h.count in omega arith)
      none-by false w = ltb-false i (length t) w

  module _ (q : i < length t) (e : ℕ) (z : e ≡ i + up_to 10 (drop i t)) where
    pub down_lt : (k < length bs) × (k < length d)
    down_lt =
        let n = ap length (lines-at t i e q z) in let a = h.count in let b = h.blocks in
        let l : k < length bs = omega arith in
        let m = ap length (h.left ∙ ap (λ (x : List LineRec). x ++ h.rest) (records-here t bs i k c l q e z _ refl)) in
        let p = length-drop k d in
        (l, omega arith)

    -- the record of the line at i
    pub down-here : get_or d k no_rec ≡ rec_at i e (cond (is_header (part i e t)) (suc c) c) (get_or bs k 0)
    down-here =
        ap (λ (n : ℕ). get_or d n no_rec) (let w : k ≡ k + 0 = omega arith in w)
        ∙ sym (get_or-drop k d 0 no_rec)
        ∙ ap (λ (x : List LineRec). get_or x 0 no_rec) (h.left ∙ ap (λ (x : List LineRec). x ++ h.rest) (records-here t bs i k c down_lt.0 q e z _ refl))

    pub down-on : {j : ℕ} → j ≡ min (e + 1) (length t) → Down t bs d j (k + 1) (cond (is_header (part i e t)) (suc c) c)
    down-on {j} y = record {
      rest = h.rest;
      left = sym (drop-drop 1 k d) ∙ ap (drop 1) (h.left ∙ ap (λ (x : List LineRec). x ++ h.rest) (records-here t bs i k c down_lt.0 q e z j y));
      count = let n = ap length (lines-at t i e q z ∙ ap (λ (r : ℕ). part i e t ∷ lines_of (drop r t)) (sym y)) in let a = h.count in omega arith;
      blocks = h.blocks;
      many = h.many;
    }
