-- Requests 1 and 8: what the records of a text say, of the whole and of each pass: one for each line, each output line once, and none past them; and those of a tail.
-- Assumes nothing.
use Prim.Native.Nat.{ℕ, zero, suc, ◌+◌, ◌*◌, ◌≤◌}
use mathlib.Core.Path.{◌≡◌, refl, sym, ap, ◌∙◌}
use mathlib.Core.Bool.{Bool, true, false, cond}
use mathlib.Core.List.{List, [], ◌∷◌, ◌++◌}
use native.Mathlib.Omega.{arith}
use borrow.Author.Tests.{lt-ltb, ltb-true, le-leb}
use lib.Dec.{ltb}
use lib.ListN.{length, take, drop, get_or, length-append, length-take, take-append-drop}
use Rattle.lines.specs.Lf.{all, same}
use Rattle.lines.specs.Acts.{Act, apply}
use Rattle.lines.proofs.Tests.{no, and_left, and_right, and_both}
use Rattle.origins.specs.declared.Form.{Form}
use Rattle.origins.specs.declared.Went.{Went}
use Rattle.origins.specs.declared.Went.TheVariants.{Equal, Changed, Inside, Away}
use Rattle.origins.specs.Form.{Shape, form_shape, gone_of, size_of, records_from, file_of}
use Rattle.origins.specs.Answers.{fits_out, fits_from}
use Rattle.origins.specs.Fates.{Fate, at, held, lost, fates_of, follow, staying, went_of, wents_of}
use Rattle.origins.proofs.FateLaws.{fates-length, follow-assoc, stay-follow, under, Under, cons, stands, count_up}
use Rattle.origins.proofs.Tails.{lowers, said_of, said-tail, records-drop}
use Rattle.place.specs.Inner.Region.{headed}
use Rattle.place.specs.Inner.Blocks.{own}
use Rattle.reading.specs.Reading.{Reading, clean_in, joined_at, reading_of, ends_shut}
use Rattle.reading.proofs.Lined.{mode-lined}
use Rattle.decls.specs.Decls.{prune_decls_acts, prune_decls}
use Rattle.decls.proofs.Passes as decls
use Rattle.calls.specs.LeavesOf.{leaves_of}
use Rattle.calls.specs.Calls.{rebuild_calls_acts, rebuild_calls}
use Rattle.calls.proofs.Instance as calls
use Rattle.bind.specs.Bind.{bind_declarators_acts, bind_declarators}
use Rattle.bind.proofs.Cut as bind
use Rattle.steps.specs.Step.{step_of, step_fates}
use Rattle.steps.proofs.Goings.{Goes, step-goes}
use Rattle.passes.specs.Inner.Passes.{steps_of, steps_fates}
use Rattle.passes.proofs.ChainLaws.{steps-goes}
use Rattle.demands.proofs.Cuts.{Cuts, rebuilds, prunes, binds}

-- ---- what is said of all lines

-- the output lines of those that are kept, fates 0 and 1, from the first line on
unfoldable pub kept_as : List Went → List ℕ
kept_as [] = []
kept_as (Equal n ∷ ws) = n ∷ kept_as ws
kept_as (Changed n ∷ ws) = n ∷ kept_as ws
kept_as (Inside n ∷ ws) = kept_as ws
kept_as (Away ∷ ws) = kept_as ws

-- a record names one of m output lines, or the line is gone
unfoldable pub named_in : ℕ → Went → Bool
named_in m (Equal n) = ltb n m
named_in m (Changed n) = ltb n m
named_in m (Inside n) = ltb n m
named_in m Away = true

-- the records of n lines, of which m come out
pub record Accounted (n m : ℕ) (ws : List Went) : Type 0 where
  -- every line has one
  pub each : length ws ≡ n
  -- those that are kept are the output lines 0, 1, 2, .., each once and in order
  pub stand : kept_as ws ≡ count_up m 0
  -- the others that are not gone name one of these
  pub named : all (named_in m) ws ≡ true
  -- and a line that is gone, and no other, has the number that stands for gone, in a form that has numbers for so many lines
  pub gone-only : (F : Form) → n ≤ gone_of (form_shape F) → m ≤ n → fits_from (form_shape F) 0 ws ≡ true

kept_at : (b : Bool) (n : ℕ) (ws : List Went) → kept_as (cond b (Equal n) (Changed n) ∷ ws) ≡ n ∷ kept_as ws
unfolding kept_as
kept_at true n ws = refl
kept_at false n ws = refl

kept-stands : (out ls : List (List ℕ)) (fs : List Fate) → length fs ≡ length ls → kept_as (wents_of out ls fs) ≡ stands fs
unfolding wents_of went_of kept_as stands
kept-stands out [] [] q = refl
kept-stands out [] (f ∷ fs) q = absurd (omega arith)
kept-stands out (l ∷ ls) [] q = absurd (omega arith)
kept-stands out (l ∷ ls) (at n ∷ fs) q = kept_at (same l (get_or out n [])) n (wents_of out ls fs) ∙ ap (λ (ns : List ℕ). n ∷ ns) (kept-stands out ls fs (omega arith))
kept-stands out (l ∷ ls) (held n ∷ fs) q = kept-stands out ls fs (omega arith)
kept-stands out (l ∷ ls) (lost ∷ fs) q = kept-stands out ls fs (omega arith)

said_each : (out ls : List (List ℕ)) (fs : List Fate) → length fs ≡ length ls → length (wents_of out ls fs) ≡ length ls
unfolding wents_of
said_each out [] [] q = refl
said_each out [] (f ∷ fs) q = refl
said_each out (l ∷ ls) [] q = absurd (omega arith)
said_each out (l ∷ ls) (f ∷ fs) q = ap suc (said_each out ls fs (omega arith))

named-one : (m : ℕ) (out : List (List ℕ)) (l : List ℕ) (f : Fate) → under m f → named_in m (went_of out l f) ≡ true
unfolding went_of named_in under
named-one m out l (at n) h = go (same l (get_or out n []))
  where
    go : (b : Bool) → named_in m (cond b (Equal n) (Changed n)) ≡ true
    go true = lt-ltb n m h
    go false = lt-ltb n m h
named-one m out l (held n) h = lt-ltb n m h
named-one m out l lost h = refl

said-named : (m : ℕ) (out ls : List (List ℕ)) (fs : List Fate) → Under m fs → all (named_in m) (wents_of out ls fs) ≡ true
unfolding wents_of
said-named m out [] fs h = refl
said-named m out (l ∷ ls) [] h = refl
said-named m out (l ∷ ls) (f ∷ fs) (cons p h) = and_both (named-one m out l f p) (said-named m out ls fs h)

-- numbers that fit a form
fits-named : (F : Shape) (m : ℕ) (w : Went) → m ≤ gone_of F → named_in m w ≡ true → fits_out F w ≡ true
unfolding named_in
fits-named F m (Equal n) h e = lt-ltb n (gone_of F) (omega (arith, ltb-true n m e))
fits-named F m (Changed n) h e = lt-ltb n (gone_of F) (omega (arith, ltb-true n m e))
fits-named F m (Inside n) h e = lt-ltb n (gone_of F) (omega (arith, ltb-true n m e))
fits-named F m Away h e = refl

fits_all : (F : Shape) (m i : ℕ) (ws : List Went) → m ≤ gone_of F → i + length ws ≤ gone_of F → all (named_in m) ws ≡ true → fits_from F i ws ≡ true
unfolding fits_from
fits_all F m i [] h k e = refl
fits_all F m i (w ∷ ws) h k e =
    and_both (and_both (le-leb i (gone_of F) (omega arith)) (fits-named F m w h (and_left (named_in m w) (all (named_in m) ws) e)))
    (fits_all F m (suc i) ws h (omega arith) (and_right (named_in m w) (all (named_in m) ws) e))

accounted : (out ls : List (List ℕ)) (fs : List Fate) → Goes (length ls) (length out) fs → Accounted (length ls) (length out) (wents_of out ls fs)
accounted out ls fs g =
    let n = said_each out ls fs g.many in
    let e = said-named (length out) out ls fs g.below in
    record {
      each = n;
      stand = kept-stands out ls fs g.many ∙ g.each;
      named = e;
      gone-only = λ F h k. fits_all (form_shape F) (length out) 0 (wents_of out ls fs) (omega arith) (omega (arith, n)) e;
    }

-- of any steps one after the other, and so of the whole, and of each pass, in every mode
pub records-stand : (mode k n : ℕ) (ls : List (List ℕ)) →
    Accounted (length ls) (length (steps_of (reading_of mode) k n ls)) (wents_of (steps_of (reading_of mode) k n ls) ls (steps_fates (reading_of mode) k n ls))
records-stand mode k n ls = accounted (steps_of (reading_of mode) k n ls) ls (steps_fates (reading_of mode) k n ls) (steps-goes (mode-lined mode) k n ls)

pub pass-stand : (mode k : ℕ) (ls : List (List ℕ)) → Accounted (length ls) (length (step_of (reading_of mode) k ls)) (wents_of (step_of (reading_of mode) k ls) ls (step_fates (reading_of mode) k ls))
pass-stand mode k ls = accounted (step_of (reading_of mode) k ls) ls (step_fates (reading_of mode) k ls) (step-goes (mode-lined mode) ls k)

-- ---- one after the other

-- where the lines go in n steps and m more: first where they go in the n, and from there where the m take them
pub origins-composed : (mode k n m : ℕ) (ls : List (List ℕ)) →
    steps_fates (reading_of mode) k (n + m) ls ≡ follow (steps_fates (reading_of mode) k n ls) (steps_fates (reading_of mode) (k + n) m (steps_of (reading_of mode) k n ls))
unfolding steps_fates steps_of
origins-composed mode k zero m ls =
    let R : Reading = reading_of mode in
    let z : 0 + m ≡ m = omega arith in
    let y : k ≡ k + 0 = omega arith in
    ap (λ (i : ℕ). steps_fates R k i ls) z ∙ ap (λ (i : ℕ). steps_fates R i m ls) y
    ∙ sym (ap (λ (i : ℕ). follow (staying i 0) (steps_fates R (k + 0) m ls)) (sym (steps-goes (mode-lined mode) (k + 0) m ls).many) ∙ stay-follow (steps_fates R (k + 0) m ls))
origins-composed mode k (suc n) m ls =
    let R : Reading = reading_of mode in
    let z : suc n + m ≡ suc (n + m) = omega arith in
    let y : suc k + n ≡ k + suc n = omega arith in
    let ms : List (List ℕ) = step_of R k ls in
    ap (λ (i : ℕ). steps_fates R k i ls) z ∙ ap (follow (step_fates R k ls)) (origins-composed mode (suc k) n m ms)
    ∙ sym (follow-assoc (step_fates R k ls) (steps_fates R (suc k) n ms) (steps_fates R (suc k + n) m (steps_of R (suc k) n ms)))
    ∙ ap (λ (i : ℕ). follow (follow (step_fates R k ls) (steps_fates R (suc k) n ms)) (steps_fates R i m (steps_of R (suc k) n ms))) y

-- ---- the records of a tail

cut-acts : (acts : List (List ℕ) → List Act) (upper tail : List (List ℕ)) → acts (upper ++ tail) ≡ acts upper ++ acts tail → ((ls : List (List ℕ)) → length (acts ls) ≡ length ls) →
    drop (length upper) (said_of (acts (upper ++ tail)) (upper ++ tail)) ≡ lowers (length (apply (acts upper) upper)) (said_of (acts tail) tail)
unfolding fates_of
cut-acts acts upper tail e n =
    ap (λ (xs : List Act). drop (length upper) (said_of xs (upper ++ tail))) e
    ∙ said-tail (acts upper) (acts tail) upper tail (n upper) (n tail) (fates-length (acts upper ++ acts tail) 0 ∙ length-append (acts upper) (acts tail))

decls-cut : (upper tail : List (List ℕ)) → headed tail ≡ true → prune_decls_acts (upper ++ tail) ≡ prune_decls_acts upper ++ prune_decls_acts tail
unfolding headed
decls-cut upper [] h = no h
decls-cut upper (l ∷ ls) h = decls.acts-cut l ls h upper

-- what is said of a tail in one of the three passes, in each mode: what is said of the tail alone, the output lines shifted by the lines that come out above.
-- Where lines are joined, nothing may be open where the tail begins
pub cut-said : {k : ℕ} → Cuts k → (mode : ℕ) (upper tail : List (List ℕ)) → headed tail ≡ true → ends_shut (joined_at mode) upper ≡ true → own (clean_in (joined_at mode) tail) ≡ true →
    drop (length upper) (wents_of (step_of (reading_of mode) k (upper ++ tail)) (upper ++ tail) (step_fates (reading_of mode) k (upper ++ tail)))
    ≡ lowers (length (step_of (reading_of mode) k upper)) (wents_of (step_of (reading_of mode) k tail) tail (step_fates (reading_of mode) k tail))
unfolding step_of step_fates said_of rebuild_calls prune_decls bind_declarators
cut-said rebuilds mode upper tail h s o =
    cut-acts (rebuild_calls_acts (leaves_of (reading_of mode))) upper tail (calls.calls-acts-cut (mode-lined mode) upper tail h s o) (calls.calls-length (mode-lined mode))
cut-said prunes mode upper tail h s o = cut-acts prune_decls_acts upper tail (decls-cut upper tail h) decls.acts-length
cut-said binds mode upper tail h s o = cut-acts (bind_declarators_acts (reading_of mode)) upper tail (bind.bind-acts-cut (mode-lined mode) upper tail h s o) (bind.bind-length (mode-lined mode))

-- and the bytes, in each form: behind the records of the upper lines stand those of the tail, the first of its lines numbered by the lines above it
pub cut-records : {k : ℕ} → Cuts k → (F : Form) (mode : ℕ) (upper tail : List (List ℕ)) → headed tail ≡ true → ends_shut (joined_at mode) upper ≡ true → own (clean_in (joined_at mode) tail) ≡ true →
    drop (size_of (form_shape F) * length upper) (file_of (form_shape F) (wents_of (step_of (reading_of mode) k (upper ++ tail)) (upper ++ tail) (step_fates (reading_of mode) k (upper ++ tail))))
    ≡ records_from (form_shape F) (length upper) (lowers (length (step_of (reading_of mode) k upper)) (wents_of (step_of (reading_of mode) k tail) tail (step_fates (reading_of mode) k tail)))
unfolding file_of
cut-records {k} c form mode upper tail h s o =
    let F : Shape = form_shape form in
    let n : ℕ = length upper in
    let ws : List Went = wents_of (step_of (reading_of mode) k (upper ++ tail)) (upper ++ tail) (step_fates (reading_of mode) k (upper ++ tail)) in
    let q : length (take n ws) ≡ n = omega (arith, length-take n ws, (pass-stand mode k (upper ++ tail)).each, length-append upper tail) in
    let z : n + 0 ≡ n = omega arith in
    ap (λ (xs : List Went). drop (size_of F * n) (records_from F 0 xs)) (sym (take-append-drop n ws))
    ∙ ap (λ (i : ℕ). drop (size_of F * i) (records_from F 0 (take n ws ++ drop n ws))) (sym q)
    ∙ records-drop F (take n ws) (drop n ws) 0
    ∙ ap (λ (i : ℕ). records_from F (i + 0) (drop n ws)) q
    ∙ ap (λ (i : ℕ). records_from F i (drop n ws)) z
    ∙ ap (records_from F n) (cut-said c mode upper tail h s o)
