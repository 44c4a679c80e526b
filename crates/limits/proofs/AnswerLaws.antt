-- Laws of the checks, of the answer, and of what an answer leaves. Assumes nothing.
use Prim.Native.Nat.{ℕ, ◌+◌, ◌≤◌, ◌<◌}
use mathlib.Core.Path.{◌≡◌, refl, sym, ap, ◌∙◌}
use mathlib.Core.Bool.{Bool, true, false, cond}
use mathlib.Core.List.{List, ◌++◌}
use native.Mathlib.Omega.{arith}
use borrow.Author.Tests.{lt-ltb, le-ltb, ltb-false, eq-eqb, ne_eqb}
use lib.Dec.{ltb}
use native.Mathlib.Nat.{zero-add}
use lib.ListN.{length, take, drop}
use Rattle.std.specs.declared.option.Option.{Option}
use Rattle.std.specs.declared.option.Option.TheVariants.{Some, None}
use Rattle.lines.specs.Lf.{within}
use Rattle.lines.specs.Inner.Out.{put_at, Wrote}
use Rattle.lines.specs.Steps.{split_lines, over_from}
use Rattle.lines.proofs.Tests.{no}
use Rattle.text.specs.Utf8Form.{Utf8, utf8_of}
use Rattle.std.specs.declared.result.Result.TheVariants.{Ok, Err}
use Rattle.origins.specs.declared.Form.{Form}
use Rattle.origins.specs.declared.Form.TheVariants as form
use Rattle.flaws.specs.declared.Flaw as flaw
use Rattle.flaws.specs.declared.Flaw.TheVariants as flaw-is
use Rattle.flaws.specs.Flaws.{flaw_of}
use Rattle.limits.specs.declared.Limits.{Limits}
use Rattle.limits.specs.declared.Refusal.TheVariants.{BadPass, TooLong, ShortWork, TooManyLines, ShortResult, BadMode, ShortRecords, WideLines}
use Rattle.limits.specs.Answer.{Answer, number_of, length_of, place_of, passes_ran, is_done}
use Rattle.limits.specs.Entry.{small, large, is_wide, by_flaw, by_utf8, by_crowd, checked_lines, checked, records_need, roomed, answer_of, modes, in_mode, whole_answer, pass_answer, blank, work_after, out_after}
use Rattle.limits.specs.Inner.Sane.{Sane, Within}

-- ---- one check after the other

module _ (L : Limits) (F : Form) (t : List ℕ) (fine : Answer) where
  pub lines-many : L.lines < length (split_lines t) → Err (TooManyLines L.lines) ≡ checked_lines L F t fine
  unfolding checked_lines
  lines-many h = rw (lt-ltb L.lines (length (split_lines t)) h)

  pub lines-wide : length (split_lines t) ≤ L.lines → is_wide F (length (split_lines t)) ≡ true → (Err WideLines) ≡ checked_lines L F t fine
  unfolding checked_lines
  lines-wide h w = rw (le-ltb L.lines (length (split_lines t)) h, w)

  pub lines-few : length (split_lines t) ≤ L.lines → is_wide F (length (split_lines t)) ≡ false → {x : Option ℕ} → over_from 64 91 0 (split_lines t) ≡ x → by_crowd x fine ≡ checked_lines L F t fine
  unfolding checked_lines
  lines-few h w e = rw (le-ltb L.lines (length (split_lines t)) h, w, e)

  module _ (short : Bool) where
    pub text-long : L.bytes < length t → Err (TooLong L.bytes) ≡ checked L F short t fine
    unfolding checked
    text-long h = rw (lt-ltb L.bytes (length t) h)

    pub work-short : length t ≤ L.bytes → short ≡ true → (Err ShortWork) ≡ checked L F short t fine
    unfolding checked
    work-short h e = rw (le-ltb L.bytes (length t) h, e)

    pub text-read : length t ≤ L.bytes → short ≡ false → {x : Utf8} → utf8_of t ≡ x → by_utf8 x t (checked_lines L F t fine) ≡ checked L F short t fine
    unfolding checked
    text-read h e q = rw (le-ltb L.bytes (length t) h, e, q)

    pub text-bad : length t ≤ L.bytes → short ≡ false → {r : Answer} {f : flaw.Flaw} {i : ℕ} → r ≡ by_flaw f i → f ≡ flaw_of (drop i t) → utf8_of t ≡ Err i → r ≡ checked L F short t fine
    text-bad h e {i = i} p q w = p ∙ ap (λ (y : flaw.Flaw). by_flaw y i) q ∙ text-read h e w

-- ---- a text that no check refuses, and one that a check refuses

-- what is wrong with the bytes is no answer of a run
flaw-done : (f : flaw.Flaw) (i : ℕ) → (is_done (by_flaw f i) ≡ false) × (passes_ran (by_flaw f i) ≡ false)
unfolding is_done passes_ran
flaw-done flaw-is.Other i = (refl, refl)
flaw-done flaw-is.Cut i = (refl, refl)
flaw-done flaw-is.Overlong i = (refl, refl)
flaw-done flaw-is.Outside i = (refl, refl)

-- the checks by what each asks
abbrev pub tests : Limits → Bool → Bool → Utf8 → List ℕ → Bool → Bool → Option ℕ → Answer → Answer
tests L p s v t q w o x = cond p (Err (TooLong L.bytes)) (cond s (Err ShortWork) (by_utf8 v t (cond q (Err (TooManyLines L.lines)) (cond w (Err WideLines) (by_crowd o x)))))

record Passed (L : Limits) (p s : Bool) (v : Utf8) (t : List ℕ) (q w : Bool) (o : Option ℕ) : Type 0 where
  not-long : p ≡ false
  not_short : s ≡ false
  not-many : q ≡ false
  same : (x : Answer) → tests L p s v t q w o x ≡ x

passed-by : (L : Limits) (p s : Bool) (v : Utf8) (t : List ℕ) (q w : Bool) (o : Option ℕ) → is_done (tests L p s v t q w o (Ok 0)) ≡ true → Passed L p s v t q w o
unfolding is_done
passed-by L true s v t q w o h = no h
passed-by L false true v t q w o h = no h
passed-by L false false (Err i) t q w o h = no (sym (flaw-done (flaw_of (drop i t)) i).0 ∙ h)
passed-by L false false (Ok tt) t true w o h = no h
passed-by L false false (Ok tt) t false true o h = no h
passed-by L false false (Ok tt) t false false (Some n) h = no h
passed-by L false false (Ok tt) t false false None h = record { not-long = refl; not_short = refl; not-many = refl; same = λ x. refl }

stopped_by : (L : Limits) (p s : Bool) (v : Utf8) (t : List ℕ) (q w : Bool) (o : Option ℕ) → is_done (tests L p s v t q w o (Ok 0)) ≡ false → (x : Answer) →
    (tests L p s v t q w o x ≡ tests L p s v t q w o (Ok 0)) × (passes_ran (tests L p s v t q w o (Ok 0)) ≡ false)
unfolding is_done passes_ran
stopped_by L true s v t q w o h x = (refl, refl)
stopped_by L false true v t q w o h x = (refl, refl)
stopped_by L false false (Err i) t q w o h x = (refl, (flaw-done (flaw_of (drop i t)) i).1)
stopped_by L false false (Ok tt) t true w o h x = (refl, refl)
stopped_by L false false (Ok tt) t false true o h x = (refl, refl)
stopped_by L false false (Ok tt) t false false (Some n) h x = (refl, refl)
stopped_by L false false (Ok tt) t false false None h x = no (sym h)

-- no check refuses a text: a work buffer is not too short, and the text is within the limits
pub record Accepted (L : Limits) (F : Form) (short : Bool) (t : List ℕ) : Type 0 where
  pub long-enough : short ≡ false
  pub bytes : length t ≤ L.bytes
  pub lines : length (split_lines t) ≤ L.lines
  pub same : (x : Answer) → checked L F short t x ≡ x

pub accepted-by : (L : Limits) (F : Form) (short : Bool) (t : List ℕ) → is_done (checked L F short t (Ok 0)) ≡ true → Accepted L F short t
unfolding checked checked_lines
accepted-by L F short t h =
    let p = passed-by L (ltb L.bytes (length t)) short (utf8_of t) t (ltb L.lines (length (split_lines t))) (is_wide F (length (split_lines t))) (over_from 64 91 0 (split_lines t)) h in
    record {
      long-enough = p.not_short;
      bytes = ltb-false L.bytes (length t) p.not-long;
      lines = ltb-false L.lines (length (split_lines t)) p.not-many;
      same = p.same;
    }

pub accepted-within : {L : Limits} {F : Form} {short : Bool} {t : List ℕ} → Sane L → Accepted L F short t → Within L t
accepted-within s p = record { sane = s; bytes = p.bytes; lines = p.lines }

pub refused-by : (L : Limits) (F : Form) (short : Bool) (t : List ℕ) → is_done (checked L F short t (Ok 0)) ≡ false → (x : Answer) → (checked L F short t x ≡ checked L F short t (Ok 0)) × (passes_ran (checked L F short t (Ok 0)) ≡ false)
unfolding checked checked_lines
refused-by L F short t h x = stopped_by L (ltb L.bytes (length t)) short (utf8_of t) t (ltb L.lines (length (split_lines t))) (is_wide F (length (split_lines t))) (over_from 64 91 0 (split_lines t)) h x

pub sane-small : Sane small
sane-small = record { bytes-reach = omega arith }

pub sane-large : Sane large
sane-large = record { bytes-reach = omega arith }

-- ---- what an answer leaves

pub work-kept : (r : Answer) (n : ℕ) (d : List ℕ) → passes_ran r ≡ false → d ≡ work_after r n d
unfolding work_after
work-kept r n d h = rw h

pub out-kept : (r : Answer) (xs d : List ℕ) → is_done r ≡ false → d ≡ out_after r xs d
unfolding out_after
out-kept r xs d h = rw h

pub roomed-runs : (n room need have : ℕ) → passes_ran (roomed n room need have) ≡ true
unfolding passes_ran
roomed-runs n room need have = go (ltb room n) (ltb have need)
  where
    go : (b k : Bool) → passes_ran (cond b (Err (ShortResult n)) (cond k (Err (ShortRecords need)) (Ok n))) ≡ true
    go true k = refl
    go false true = refl
    go false false = refl

pub work-wiped : (r : Answer) (n : ℕ) (d : List ℕ) {d' : List ℕ} → passes_ran r ≡ true → d' ≡ blank n ++ drop n d → d' ≡ work_after r n d
unfolding work_after
work-wiped r n d h e = rw h e

-- ---- the answer

-- r is x
pub number-as : (r : Answer) {x : Answer} → r ≡ x → number_of x ≡ number_of r
number-as r e = ap number_of (sym e)

pub length-as : (r : Answer) {x : Answer} → r ≡ x → length_of x ≡ length_of r
length-as r e = ap length_of (sym e)

pub place-as : (r : Answer) {x : Answer} → r ≡ x → place_of x ≡ place_of r
place-as r e = ap place_of (sym e)

-- its number tells whether it is `Done`
pub done-by : (r : Answer) {n : ℕ} → n ≡ number_of r → n ≡ 0 → is_done r ≡ true
unfolding is_done
done-by r {n} e h = eq-eqb (number_of r) 0 (sym e ∙ h)

pub done-not : (r : Answer) {n : ℕ} → n ≡ number_of r → (n ≡ 0 → ⊥) → is_done r ≡ false
unfolding is_done
done-not r {n} e h = ne_eqb (number_of r) 0 (λ z. h (e ∙ z))

-- ---- the mode

pub mode-bad : (mode : ℕ) (x : Answer) → modes ≤ mode → (Err BadMode) ≡ in_mode mode x
mode-bad mode x h = rw (le-ltb mode modes h)

pub mode-good : (mode : ℕ) {r x : Answer} → mode < modes → r ≡ x → r ≡ in_mode mode x
mode-good mode h e = rw (lt-ltb mode modes h) e

-- a task that no check refuses has a mode that there is
pub mode-done : (mode : ℕ) (x : Answer) → is_done (in_mode mode x) ≡ true → ((y : Answer) → in_mode mode y ≡ y) × (is_done x ≡ true)
unfolding is_done
mode-done mode x h = go (ltb mode modes) h
  where
    go : (b : Bool) → is_done (cond b x (Err BadMode)) ≡ true → ((y : Answer) → cond b y (Err BadMode) ≡ y) × (is_done x ≡ true)
    go true q = (λ y. refl, q)
    go false q = no q

mode-stops : (b : Bool) (L : Limits) (F : Form) (short : Bool) (t : List ℕ) → is_done (cond b (checked L F short t (Ok 0)) (Err BadMode)) ≡ false → (x : Answer) →
    (cond b (checked L F short t x) (Err BadMode) ≡ cond b (checked L F short t (Ok 0)) (Err BadMode)) × (passes_ran (cond b (checked L F short t (Ok 0)) (Err BadMode)) ≡ false)
unfolding passes_ran
mode-stops true L F short t h x = refused-by L F short t h x
mode-stops false L F short t h x = (refl, refl)

pub answer-refused : (r : Answer) (L : Limits) (F : Form) (mode : ℕ) (short : Bool) (t xs : List ℕ) (room have : ℕ) → r ≡ in_mode mode (checked L F short t (Ok 0)) → is_done r ≡ false → (r ≡ whole_answer L F mode short t xs room have) × (passes_ran r ≡ false)
unfolding whole_answer answer_of
answer-refused r L F mode short t xs room have e h = let p = mode-stops (ltb mode modes) L F short t (ap is_done (sym e) ∙ h) (roomed (length xs) room (records_need F t) have) in (e ∙ sym p.0, ap passes_ran e ∙ p.1)

pub answer-accepted : {r : Answer} (L : Limits) (F : Form) (mode : ℕ) (short : Bool) (t xs : List ℕ) (room have : ℕ) → ((y : Answer) → in_mode mode y ≡ y) → Accepted L F short t → r ≡ roomed (length xs) room (records_need F t) have → r ≡ whole_answer L F mode short t xs room have
unfolding whole_answer answer_of
answer-accepted L F mode short t xs room have m p e = e ∙ sym (p.same (roomed (length xs) room (records_need F t) have)) ∙ sym (m (checked L F short t (roomed (length xs) room (records_need F t) have)))

-- where a work buffer is too short, a task is refused
pub short-refused : (L : Limits) (F : Form) (mode : ℕ) (t : List ℕ) → is_done (in_mode mode (checked L F true t (Ok 0))) ≡ false
unfolding is_done checked
short-refused L F mode t = go (ltb mode modes) (ltb L.bytes (length t))
  where
    go : (b k : Bool) → is_done (cond b (cond k (Err (TooLong L.bytes)) (Err ShortWork)) (Err BadMode)) ≡ false
    go true true = refl
    go true false = refl
    go false k = refl

-- ---- lines that a form has no numbers for

-- by its form
pub wide-as : (F : Form) (n : ℕ) {x : Form} → F ≡ x → is_wide x n ≡ is_wide F n
wide-as F n e = ap (λ (y : Form). is_wide y n) (sym e)

-- no text has too many lines for `OM`, and none within the limits of the first pair for `OL`
pub never-om : (n : ℕ) → is_wide form.Om n ≡ false
never-om n = refl

pub never-small : (n : ℕ) → n ≤ small.lines → is_wide form.Ol n ≡ false
never-small n h = le-ltb 65535 n (omega arith)

-- ---- the number of a pass

module _ (L : Limits) (F : Form) (k mode : ℕ) (short : Bool) (t xs : List ℕ) (room have : ℕ) where
  pub pass-bad : within 1 6 k ≡ false → (Err BadPass) ≡ pass_answer L F k mode short t xs room have
  unfolding pass_answer
  pass-bad h = rw h

  pub pass-good : within 1 6 k ≡ true → whole_answer L F mode short t xs room have ≡ pass_answer L F k mode short t xs room have
  unfolding pass_answer
  pass-good h = rw h

pub bad-runs : passes_ran (Err BadPass) ≡ false
unfolding passes_ran
bad-runs = refl

pub bad-done : is_done (Err BadPass) ≡ false
unfolding is_done
bad-done = refl

-- ---- the last step

pub roomed-short : (n room need have : ℕ) {m : ℕ} → m ≡ n → room < m → Err (ShortResult m) ≡ roomed n room need have
roomed-short n room need have e l = rw (e, lt-ltb room n (omega arith))

pub roomed-records : (n room need have : ℕ) {m : ℕ} → m ≡ n → m ≤ room → have < need → Err (ShortRecords need) ≡ roomed n room need have
roomed-records n room need have e l k = rw (le-ltb room n (omega arith), lt-ltb have need k)

pub roomed-done : (n room need have : ℕ) {m : ℕ} → m ≡ 0 + n → n ≤ room → need ≤ have → Ok m ≡ roomed n room need have
roomed-done n room need have {m} e l k = let q : m ≡ n = omega arith in rw (q, le-ltb room n l, le-ltb have need k)

pub out-short : (n : ℕ) (xs d : List ℕ) → d ≡ out_after (Err (ShortResult n)) xs d
unfolding out_after is_done
out-short n xs d = refl

pub out-unrecorded : (n : ℕ) (xs d : List ℕ) → d ≡ out_after (Err (ShortRecords n)) xs d
unfolding out_after is_done
out-unrecorded n xs d = refl

pub out-done : {d xs d' : List ℕ} {r : ℕ} → Wrote d 0 xs d' r → d' ≡ out_after (Ok r) xs d
unfolding out_after is_done put_at
out-done {d} {xs} w = w.holds ∙ ap (λ (n : ℕ). take 0 d ++ xs ++ drop n d) (zero-add (length xs))

-- the answer for what is wrong, by its case
pub flaw-as : (f : flaw.Flaw) (i : ℕ) {x : flaw.Flaw} → f ≡ x → by_flaw x i ≡ by_flaw f i
flaw-as f i e = ap (λ (y : flaw.Flaw). by_flaw y i) (sym e)
