-- Theorems over the entries: what `optimize` makes of a text, that no result is longer than twice its text, and the edges of the checks. Assumes nothing.
use Prim.Native.Nat.{ℕ, suc, ◌+◌, ◌-◌, ◌*◌, ◌≤◌, ◌<◌}
use mathlib.Core.Path.{◌≡◌, refl, sym, ap, ◌∙◌}
use mathlib.Core.Bool.{Bool, true, false, cond}
use mathlib.Core.List.{List, [], ◌∷◌, ◌++◌, append-nil}
use native.Mathlib.Omega.{arith}
use borrow.Author.Tests.{eqb-true, eqb-false, lt-ltb, le-ltb}
use lib.Dec.{eqb}
use lib.ListN.{length, take, drop, replicate, length-append}
use Rattle.std.specs.declared.option.Option.TheVariants.{Some, None}
use Rattle.lines.specs.Lf.{ends_in, unlines, count_of, within}
use Rattle.lines.specs.Inner.Lf.{no_lf}
use Rattle.lines.specs.Steps.{drop_cr, split_lines, joined, over_from}
use Rattle.lines.proofs.LfLaws.{lines-unlines}
use Rattle.lines.proofs.StepLaws.{ends_some, missing_lf, missing-ended, missing-open, lines-text, split_text, split-no_lf, drop_le}
use Rattle.lines.proofs.JoinLaws.{joined_end, joined_length}
use Rattle.weight.specs.Inner.Weight.{weight}
use Rattle.weight.proofs.Weigh.{length-weight, weight-twice}
use Rattle.weight.proofs.Moves.{split-weight}
use Rattle.text.specs.Utf8Form.{utf8_of}
use Rattle.globals.specs.Globals.{remove_globals}
use Rattle.reading.specs.Reading.{Reading, reading_of}
use Rattle.temps.specs.Temps.{prune_dead_temps}
use Rattle.once.specs.Once.{optimize_once}
use Rattle.phis.specs.Phis.{prune_dead_phis}
use Rattle.calls.specs.LeavesOf.{leaves_of}
use Rattle.calls.specs.Calls.{rebuild_calls}
use Rattle.decls.specs.Decls.{prune_decls}
use Rattle.bind.specs.Bind.{bind_declarators}
use Rattle.reading.proofs.Lined.{Lined}
use Rattle.origins.specs.declared.Form.{Form}
use Rattle.origins.specs.declared.Form.TheVariants as form
use Rattle.limits.specs.declared.Limits.{Limits}
use Rattle.limits.specs.declared.Refusal.TheVariants.{BadPass, BadMode, TooLong, ShortWork, TooManyLines, ShortResult, ShortRecords, WideLines}
use Rattle.std.specs.declared.result.Result.TheVariants.{Ok, Err}
use Rattle.limits.specs.Answer.{Answer, number_of, is_done}
use Rattle.steps.specs.Step.{step_of}
use Rattle.passes.specs.Passes.{result_of}
use Rattle.passes.specs.Inner.Passes.{steps_of}
use Rattle.opt.specs.Whole.{whole}
use Rattle.limits.specs.Entry.{large, is_wide, by_utf8, by_crowd, checked_lines, checked, records_need, roomed, answer_of, modes, whole_answer, pass_answer, out_after}
use Rattle.steps.proofs.Tame.{Tame, tame-step}
use Rattle.passes.proofs.Between.{tame-steps}
use Rattle.limits.proofs.AnswerLaws.{Accepted, mode-bad, mode-good, answer-accepted, pass-bad, pass-good, text-long, lines-many}
use Rattle.opt.proofs.EntryLaws.{result-whole}

-- ---- what comes out

-- the text is split, DeclareGlobals lines are removed, the six passes follow in their order, and the lines are joined
pub result-composed : (R : Reading) (t : List ℕ) →
    result_of (whole R) t ≡ joined (ends_in 10 t) (bind_declarators R (prune_decls (rebuild_calls (leaves_of R) (prune_dead_phis R (optimize_once R (prune_dead_temps R (remove_globals (split_lines t))))))))
unfolding result_of whole
result-composed R t = refl

-- where there is such a mode, no check refuses a text, and the result buffer d and the one for records are long enough, the answer is the result's length, and the result stands at the front of d
pub optimize-whole : (L : Limits) (F : Form) (mode : ℕ) (short : Bool) (t d : List ℕ) → mode < modes → Accepted L F short t → length (result_of (whole (reading_of mode)) t) ≤ length d → (have : ℕ) → records_need F t ≤ have →
    (whole_answer L F mode short t (result_of (whole (reading_of mode)) t) (length d) have ≡ Ok (length (result_of (whole (reading_of mode)) t)))
    × (out_after (Ok (length (result_of (whole (reading_of mode)) t))) (result_of (whole (reading_of mode)) t) d ≡ result_of (whole (reading_of mode)) t ++ drop (length (result_of (whole (reading_of mode)) t)) d)
unfolding out_after is_done number_of
optimize-whole L F mode short t d m p h have k =
    let n : ℕ = length (result_of (whole (reading_of mode)) t) in
    let q : Ok n ≡ roomed n (length d) (records_need F t) have = rw (le-ltb (length d) n h, le-ltb have (records_need F t) k) in
    (sym (answer-accepted L F mode short t (result_of (whole (reading_of mode)) t) (length d) have (λ y. sym (mode-good mode m refl)) p q), refl)

-- ---- no result is longer than twice its text

-- lines with an LF after each end in one, or there are none
ended-or-none : (ls : List (List ℕ)) → no_lf ls ≡ true → ends_in 10 (unlines ls) ≡ false → length (unlines ls) ≡ 0
ended-or-none ls h e = go (eqb (length u) 0) refl
  where
    u : List ℕ
    u = unlines ls

    still : length (missing_lf u) ≡ 0
    still = omega (arith, ap length (ap unlines (sym (lines-unlines ls h)) ∙ lines-text u), length-append u (missing_lf u))

    go : (b : Bool) → eqb (length u) 0 ≡ b → length u ≡ 0
    go true q = eqb-true (length u) 0 q
    go false q = let m = ap length (missing-open u e (eqb-false (length u) 0 q)) in absurd (omega (arith, still))

-- joined without a last LF, or with one
joined_by : (e : Bool) (ls : List (List ℕ)) → no_lf ls ≡ true → length (joined e ls) ≡ joined_end e (unlines ls)
joined_by e ls h = ap (λ (ms : List (List ℕ)). length (joined e ms)) (sym (lines-unlines ls h)) ∙ joined_length e (unlines ls)

joined-open : (ls : List (List ℕ)) → no_lf ls ≡ true → length (joined false ls) ≤ length (unlines ls) - 1
unfolding joined_end
joined-open ls h = rw (joined_by false ls h) (go (ends_in 10 (unlines ls)) refl)
  where
    go : (p : Bool) → ends_in 10 (unlines ls) ≡ p → cond p (length (unlines ls) - 1) (length (unlines ls)) ≤ length (unlines ls) - 1
    go true q = omega arith
    go false q = omega (arith, ended-or-none ls h q)

joined-ended : (ls : List (List ℕ)) (n : ℕ) → no_lf ls ≡ true → 1 ≤ n → length (unlines ls) ≤ n → length (joined true ls) ≤ n
unfolding joined_end
joined-ended ls n h k l = rw (joined_by true ls h) (go (ends_in 10 (unlines ls)) refl (ends_in 10 (take (length (unlines ls) - 1) (unlines ls))))
  where
    go : (p : Bool) → ends_in 10 (unlines ls) ≡ p → (q : Bool) → cond p (cond q (length (unlines ls) - 1) (length (unlines ls))) (length (unlines ls) + 1) ≤ n
    go true e true = omega arith
    go true e false = omega arith
    go false e q = omega (arith, ended-or-none ls h e)

pub result-twice : (f : List (List ℕ) → List (List ℕ)) (t : List ℕ) → Tame f → length (result_of f t) ≤ 2 * length t
unfolding result_of
result-twice f t p = go (ends_in 10 t) refl
  where
    ls : List (List ℕ)
    ls = f (split_lines t)

    clean : no_lf ls ≡ true
    clean = p.keeps (split_lines t) (split-no_lf t)

    light : length (unlines ls) ≤ weight 0 (unlines (split_lines t))
    light = omega (arith, length-weight 0 (unlines ls), p.weighs 0 (split_lines t))

    go : (e : Bool) → ends_in 10 t ≡ e → length (joined e ls) ≤ 2 * length t
    go true e =
        let q = ap (weight 0) (split_text t ∙ ap (λ (x : List ℕ). drop_cr t ++ x) (missing-ended t e) ∙ append-nil (drop_cr t)) in
        joined-ended ls (2 * length t) clean (omega (arith, ends_some t e)) (omega (arith, light, q, weight-twice (drop_cr t), drop_le t))
    go false e = omega (arith, joined-open ls clean, light, split-weight 0 t, weight-twice t)

-- of both entries, for each reading that cleans as many lines as there are
pub optimize-twice : {R : Reading} {shut : List (List ℕ) → Bool} → Lined R shut → (t : List ℕ) → length (result_of (whole R) t) ≤ 2 * length t
optimize-twice {R} c t = omega (arith, ap length (result-whole R t), result-twice (steps_of R 0 7) t (tame-steps c 0 7))

pub pass-twice : {R : Reading} {shut : List (List ℕ) → Bool} → Lined R shut → (k : ℕ) (t : List ℕ) → length (result_of (step_of R k) t) ≤ 2 * length t
pass-twice {R} c k t = result-twice (step_of R k) t (tame-step c k)

-- ---- the edges: one more is refused, the last that fits goes on to the next check

module _ (L : Limits) (F : Form) (short : Bool) (t xs : List ℕ) (room have : ℕ) where
  pub bytes-over : length t ≡ suc L.bytes → answer_of L F short t xs room have ≡ Err (TooLong L.bytes)
  unfolding answer_of
  bytes-over e = sym (text-long L F t (roomed (length xs) room (records_need F t) have) short (omega arith))

  pub bytes-edge : length t ≡ L.bytes → answer_of L F short t xs room have ≡ cond short (Err ShortWork) (by_utf8 (utf8_of t) t (checked_lines L F t (roomed (length xs) room (records_need F t) have)))
  unfolding answer_of checked
  bytes-edge e = rw (le-ltb L.bytes (length t) (omega arith))

-- the mode is looked at first of all by the entry for all passes, and just after the pass by the one for a pass
module _ (L : Limits) (F : Form) (mode : ℕ) (short : Bool) (t xs : List ℕ) (room have : ℕ) (h : modes ≤ mode) where
  pub mode-first : whole_answer L F mode short t xs room have ≡ (Err BadMode)
  unfolding whole_answer
  mode-first = sym (mode-bad mode (answer_of L F short t xs room have) h)

  pub mode-second : (k : ℕ) → within 1 6 k ≡ true → pass_answer L F k mode short t xs room have ≡ (Err BadMode)
  mode-second k p = sym (pass-good L F k mode short t xs room have p) ∙ mode-first

pub pass-first : (L : Limits) (F : Form) (k mode : ℕ) (short : Bool) (t xs : List ℕ) (room have : ℕ) → within 1 6 k ≡ false → pass_answer L F k mode short t xs room have ≡ (Err BadPass)
pass-first L F k mode short t xs room have h = sym (pass-bad L F k mode short t xs room have h)

module _ (L : Limits) (F : Form) (t : List ℕ) (x : Answer) where
  pub lines-over : length (split_lines t) ≡ suc L.lines → checked_lines L F t x ≡ Err (TooManyLines L.lines)
  lines-over e = sym (lines-many L F t x (omega arith))

  pub lines-edge : length (split_lines t) ≡ L.lines → checked_lines L F t x ≡ cond (is_wide F L.lines) (Err WideLines) (by_crowd (over_from 64 91 0 (split_lines t)) x)
  unfolding checked_lines
  lines-edge e = rw (le-ltb L.lines (length (split_lines t)) (omega arith), e)

-- the form `OL` has numbers for 65,535 lines, and none for one more; `OM` for as many as the second pair takes
pub wide-edge : (is_wide form.Ol 65535 ≡ false) × ((is_wide form.Ol 65536 ≡ true) × (is_wide form.Om large.lines ≡ false))
wide-edge = (refl, (refl, refl))

-- 64 brackets on a line pass, 65 do not
pub brackets-edge : over_from 64 91 0 (replicate 64 91 ∷ []) ≡ None
unfolding over_from count_of
brackets-edge = refl

pub brackets-over : over_from 64 91 0 ([] ∷ replicate 65 91 ∷ []) ≡ Some 1
unfolding over_from count_of
brackets-over = refl

-- buffers of exactly the lengths pass; of both too short, the result's is named
pub room-edge : (n need : ℕ) → roomed n n need need ≡ Ok n
room-edge n need = rw (le-ltb n n (omega arith), le-ltb need need (omega arith))

pub room-over : (n need have : ℕ) → roomed (suc n) n need have ≡ Err (ShortResult (suc n))
room-over n need have = rw (lt-ltb n (suc n) (omega arith))

pub records-over : (n have : ℕ) → roomed n n (suc have) have ≡ Err (ShortRecords (suc have))
records-over n have = rw (le-ltb n n (omega arith), lt-ltb have (suc have) (omega arith))
