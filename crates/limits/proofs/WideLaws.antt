-- Who is never refused because a form has no numbers for its lines, and who is. Assumes nothing.
use Prim.Native.Nat.{ℕ, ◌≤◌, ◌<◌}
use mathlib.Core.Path.{◌≡◌, refl, sym, ◌∙◌}
use mathlib.Core.Bool.{Bool, true, false, cond}
use mathlib.Core.List.{List}
use borrow.Author.Tests.{ltb-false, lt-ltb, eqb-false}
use lib.Dec.{ltb, eqb}
use lib.ListN.{length, drop}
use Rattle.std.specs.declared.option.Option.{Option}
use Rattle.std.specs.declared.option.Option.TheVariants.{Some, None}
use Rattle.lines.specs.Lf.{within}
use Rattle.lines.specs.Steps.{split_lines, over_from}
use Rattle.lines.proofs.Tests.{no}
use Rattle.text.specs.Utf8Form.{Utf8, utf8_of}
use Rattle.std.specs.declared.result.Result.TheVariants.{Ok, Err}
use Rattle.origins.specs.declared.Form.{Form}
use Rattle.origins.specs.declared.Form.TheVariants as form
use Rattle.flaws.specs.declared.Flaw as flaw
use Rattle.flaws.specs.declared.Flaw.TheVariants as flaw-is
use Rattle.flaws.specs.Flaws.{flaw_of}
use Rattle.limits.specs.declared.Limits.{Limits}
use Rattle.limits.specs.declared.Refusal.TheVariants.{BadPass, ShortResult, BadMode, ShortRecords, WideLines}
use Rattle.limits.specs.Answer.{Answer, number_of}
use Rattle.limits.specs.Entry.{small, is_wide, by_flaw, checked_lines, checked, records_need, roomed, answer_of, modes, whole_answer, pass_answer}
use Rattle.limits.proofs.AnswerLaws.{tests, never-om, never-small, mode-good, text-read, lines-wide}

-- ---- who is not

-- an answer is that refusal
abbrev is_refusal : Answer → Bool
is_refusal r = eqb (number_of r) 13

flaw-narrow : (f : flaw.Flaw) (i : ℕ) → is_refusal (by_flaw f i) ≡ false
unfolding number_of
flaw-narrow flaw-is.Other i = refl
flaw-narrow flaw-is.Cut i = refl
flaw-narrow flaw-is.Overlong i = refl
flaw-narrow flaw-is.Outside i = refl

room-narrow : (n room need have : ℕ) → is_refusal (roomed n room need have) ≡ false
unfolding number_of
room-narrow n room need have = go (ltb room n) (ltb have need)
  where
    go : (b k : Bool) → is_refusal (cond b (Err (ShortResult n)) (cond k (Err (ShortRecords need)) (Ok n))) ≡ false
    go true k = refl
    go false true = refl
    go false false = refl

tests-narrow : (L : Limits) (p s : Bool) (v : Utf8) (t : List ℕ) (q w : Bool) (o : Option ℕ) (x : Answer) → (q ≡ false → w ≡ false) → is_refusal x ≡ false → is_refusal (tests L p s v t q w o x) ≡ false
unfolding number_of
tests-narrow L true s v t q w o x h k = refl
tests-narrow L false true v t q w o x h k = refl
tests-narrow L false false (Err i) t q w o x h k = flaw-narrow (flaw_of (drop i t)) i
tests-narrow L false false (Ok tt) t true w o x h k = refl
tests-narrow L false false (Ok tt) t false true o x h k = no (sym (h refl))
tests-narrow L false false (Ok tt) t false false (Some n) x h k = refl
tests-narrow L false false (Ok tt) t false false None x h k = k

module _ (L : Limits) (F : Form) (k mode : ℕ) (short : Bool) (t xs : List ℕ) (room have : ℕ) where
  -- where a form has numbers for every number of lines within limits
  narrow : (length (split_lines t) ≤ L.lines → is_wide F (length (split_lines t)) ≡ false) → is_refusal (pass_answer L F k mode short t xs room have) ≡ false
  unfolding pass_answer whole_answer answer_of checked checked_lines number_of
  narrow h = go (within 1 6 k) (ltb mode modes)
    where
      answer : Answer
      answer = tests L (ltb L.bytes (length t)) short (utf8_of t) t (ltb L.lines (length (split_lines t))) (is_wide F (length (split_lines t))) (over_from 64 91 0 (split_lines t)) (roomed (length xs) room (records_need F t) have)

      narrow-answer : is_refusal answer ≡ false
      narrow-answer =
          tests-narrow L (ltb L.bytes (length t)) short (utf8_of t) t (ltb L.lines (length (split_lines t))) (is_wide F (length (split_lines t))) (over_from 64 91 0 (split_lines t)) (roomed (length xs) room (records_need F t) have)
          (λ q. h (ltb-false L.lines (length (split_lines t)) q)) (room-narrow (length xs) room (records_need F t) have)

      go : (b c : Bool) → is_refusal (cond b (cond c answer (Err BadMode)) (Err BadPass)) ≡ false
      go true true = narrow-answer
      go true false = refl
      go false c = refl

-- the first pair never answers 13
pub never-wide : (k mode : ℕ) (short : Bool) (t xs : List ℕ) (room have : ℕ) → number_of (pass_answer small form.Ol k mode short t xs room have) ≡ 13 → ⊥
never-wide k mode short t xs room have = eqb-false (number_of (pass_answer small form.Ol k mode short t xs room have)) 13 (narrow small form.Ol k mode short t xs room have (never-small (length (split_lines t))))

pub never-wide-whole : (mode : ℕ) (short : Bool) (t xs : List ℕ) (room have : ℕ) → number_of (whole_answer small form.Ol mode short t xs room have) ≡ 13 → ⊥
unfolding pass_answer
never-wide-whole mode short t xs room have = never-wide 1 mode short t xs room have

-- nor does an entry whose records are asked for in the form `OM`
pub never-wide-om : (L : Limits) (k mode : ℕ) (short : Bool) (t xs : List ℕ) (room have : ℕ) → number_of (pass_answer L form.Om k mode short t xs room have) ≡ 13 → ⊥
never-wide-om L k mode short t xs room have = eqb-false (number_of (pass_answer L form.Om k mode short t xs room have)) 13 (narrow L form.Om k mode short t xs room have (λ _. never-om (length (split_lines t))))

pub never-wide-whole-om : (L : Limits) (mode : ℕ) (short : Bool) (t xs : List ℕ) (room have : ℕ) → number_of (whole_answer L form.Om mode short t xs room have) ≡ 13 → ⊥
unfolding pass_answer
never-wide-whole-om L mode short t xs room have = never-wide-om L 1 mode short t xs room have

-- ---- and who is

-- a text in UTF-8 and within limits with more than 65,535 lines, where `OL` is asked for: whatever its brackets are, and whatever becomes of it
pub wide-refused : (L : Limits) (mode : ℕ) (t xs : List ℕ) (room have : ℕ) → mode < modes → length t ≤ L.bytes → utf8_of t ≡ Ok tt → length (split_lines t) ≤ L.lines → 65535 < length (split_lines t) →
    whole_answer L form.Ol mode false t xs room have ≡ (Err WideLines)
unfolding whole_answer answer_of
wide-refused L mode t xs room have m b u l w =
    let fine : Answer = roomed (length xs) room (records_need form.Ol t) have in
    sym (mode-good mode {x = checked L form.Ol false t fine} m (lines-wide L form.Ol t fine l (lt-ltb 65535 (length (split_lines t)) w) ∙ text-read L form.Ol t fine false b refl {x = (Ok tt)} u))
