-- A well-formed text that was cut gets no refusal for its bytes but the one for a cut text, at the first byte of the character that was cut. Assumes nothing.
use Prim.Native.Nat.{ℕ, ◌≤◌}
use mathlib.Core.Path.{◌≡◌, refl, sym, ap, ◌∙◌}
use mathlib.Core.Bool.{true, false}
use mathlib.Core.List.{List}
use lib.ListN.{length, take, drop}
use Rattle.std.specs.declared.result.Result.TheVariants.{Ok, Err}
use Rattle.text.specs.Utf8Form.{utf8_of}
use Rattle.origins.specs.declared.Form.{Form}
use Rattle.flaws.specs.declared.Flaw as flaw
use Rattle.flaws.specs.Flaws.{is_cut}
use Rattle.flaws.proofs.Cutting as cutting
use Rattle.limits.specs.declared.Limits.{Limits}
use Rattle.limits.specs.Answer.{Answer}
use Rattle.limits.specs.declared.Refusal.TheVariants.{Cut}
use Rattle.limits.specs.Entry.{by_flaw, checked_lines, checked}
use Rattle.limits.proofs.AnswerLaws.{text-read}

-- a text s passes the check of its bytes, or is refused with 9 where a character begins that it ends in
pub data CutAnswer (L : Limits) (F : Form) (s : List ℕ) (fine : Answer) : Type 0 where
  passes : checked L F false s fine ≡ checked_lines L F s fine → CutAnswer L F s fine
  stops : (i : ℕ) → checked L F false s fine ≡ Err (Cut i) → utf8_of s ≡ Err i → is_cut (drop i s) ≡ true → CutAnswer L F s fine

-- a well-formed text t cut after n bytes, where its bytes are not too many and no work buffer is too short
pub cut-answer : (L : Limits) (F : Form) (t : List ℕ) (n : ℕ) (fine : Answer) → utf8_of t ≡ Ok tt → length (take n t) ≤ L.bytes → CutAnswer L F (take n t) fine
cut-answer L F t n fine v h = go (cutting.cut-valid t n v)
  where
    go : cutting.CutShort (take n t) → CutAnswer L F (take n t) fine
    go (cutting.whole w) = passes (sym (text-read L F (take n t) fine false h refl {x = (Ok tt)} w))
    go (cutting.cut_at i b c f) = stops i (sym (text-read L F (take n t) fine false h refl {x = Err i} b) ∙ ap (λ (y : flaw.Flaw). by_flaw y i) f) b c
