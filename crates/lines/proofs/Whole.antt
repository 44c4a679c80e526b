-- Writing a text as it is, each line with its LF. Assumes nothing.
use Rattle.std.proofs.Common.{◌≡◌, ℕ, ◌+◌, ◌<◌, ◌≤◌, true, false, List, [], ◌∷◌, ◌++◌, length, sym, ap, ◌∙◌, append-nil, arith, length-append}
use Rattle.lines.specs.Lf.{lines_of, unlines, ends_in}
use Rattle.lines.specs.Inner.Out.{Wrote}
use Rattle.lines.proofs.OutLaws.{wrote_as, wrote_then, wrote-length}
use Rattle.lines.proofs.StepLaws.{missing_lf, missing-ended, missing-empty, missing-open, lines-text}

pub whole_room : (t : List ℕ) (o n : ℕ) → o + length (unlines (lines_of t)) ≤ n → o + length t ≤ n
whole_room t o n h = omega (arith, ap length (lines-text t), length-append t (missing_lf t))

whole-as : (t m : List ℕ) → missing_lf t ≡ m → t ++ m ≡ unlines (lines_of t)
whole-as t m e = sym (lines-text t ∙ ap (λ (x : List ℕ). t ++ x) e)

module _ {t d d' : List ℕ} {o r : ℕ} (w : Wrote d o t d' r) where
  pub whole-ended : ends_in 10 t ≡ true → Wrote d o (unlines (lines_of t)) d' r
  whole-ended e = wrote_as (sym (append-nil t) ∙ whole-as t [] (missing-ended t e)) w

  pub whole-empty : length t ≡ 0 → Wrote d o (unlines (lines_of t)) d' r
  whole-empty e = wrote_as (sym (append-nil t) ∙ whole-as t [] (missing-empty t e)) w

  module _ (e : ends_in 10 t ≡ false) (n : length t ≡ 0 → ⊥) where
    pub whole-space : o + length (unlines (lines_of t)) ≤ length d → r < length d'
    whole-space h = omega (arith, w.place, wrote-length w, ap length (whole-as t (10 ∷ []) (missing-open t e n)), length-append t (10 ∷ []))

    pub whole_open : {d'' : List ℕ} {p : ℕ} → Wrote d' r (10 ∷ []) d'' p → Wrote d o (unlines (lines_of t)) d'' p
    whole_open v = wrote_as (whole-as t (10 ∷ []) (missing-open t e n)) (wrote_then w v)
