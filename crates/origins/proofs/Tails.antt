-- The records of a tail are those of the tail alone, with both line numbers shifted. Assumes nothing.
use Prim.Native.Nat.{ℕ, suc, ◌+◌, ◌*◌}
use mathlib.Core.Path.{◌≡◌, refl, sym, ap, ◌∙◌}
use mathlib.Core.Bool.{Bool, true, false, cond}
use mathlib.Core.List.{List, [], ◌∷◌, ◌++◌, append_assoc}
use native.Mathlib.Omega.{arith}
use native.Mathlib.Nat.{zero-add}
use lib.ListN.{length, drop, get_or}
use lib.Seq.{get_or-append-add, drop_at}
use Rattle.lines.specs.Acts.{Act, apply}
use Rattle.lines.specs.Lf.{same}
use Rattle.lines.proofs.ActLaws.{apply-append}
use Rattle.origins.specs.Fates.{Fate, at, held, lost, fates_of, went_of, wents_of}
use Rattle.origins.specs.declared.Went.{Went}
use Rattle.origins.specs.declared.Went.TheVariants.{Equal, Changed, Inside, Away}
use Rattle.origins.specs.Form.{Shape, size_of, record_bytes, records_from}
use Rattle.origins.proofs.FateLaws.{outs, outs-apply, shift, shifts, fates-cut}
use Rattle.origins.proofs.RoundTrip.{records-length}

-- what is said, with k lines more above what came out; what is gone stays gone
unfoldable pub lower : ℕ → Went → Went
lower k (Equal n) = Equal (k + n)
lower k (Changed n) = Changed (k + n)
lower k (Inside n) = Inside (k + n)
lower k Away = Away

unfoldable pub lowers : ℕ → List Went → List Went
unfolding lower
lowers k [] = []
lowers k (w ∷ ws) = lower k w ∷ lowers k ws

lower_by : (k n : ℕ) (b : Bool) → cond b (Equal (k + n)) (Changed (k + n)) ≡ lower k (cond b (Equal n) (Changed n))
unfolding lower
lower_by k n true = refl
lower_by k n false = refl

went-lower : (us ts : List (List ℕ)) (l : List ℕ) (f : Fate) → went_of (us ++ ts) l (shift (length us) f) ≡ lower (length us) (went_of ts l f)
unfolding went_of shift lower
went-lower us ts l (at n) = rw (get_or-append-add us ts n []) (lower_by (length us) n (same l (get_or ts n [])))
went-lower us ts l (held n) = refl
went-lower us ts l lost = refl

wents-lower : (us ts ls : List (List ℕ)) (fs : List Fate) → wents_of (us ++ ts) ls (shifts (length us) fs) ≡ lowers (length us) (wents_of ts ls fs)
unfolding wents_of shifts lowers
wents-lower us ts [] fs = refl
wents-lower us ts (l ∷ ls) [] = refl
wents-lower us ts (l ∷ ls) (f ∷ fs) =
    ap (λ (w : Went). w ∷ wents_of (us ++ ts) ls (shifts (length us) fs)) (went-lower us ts l f) ∙ ap (λ (ws : List Went). lower (length us) (went_of ts l f) ∷ ws) (wents-lower us ts ls fs)

wents-drop : (out us ts : List (List ℕ)) (fs : List Fate) → length us + length ts ≡ length fs → drop (length us) (wents_of out (us ++ ts) fs) ≡ wents_of out ts (drop (length us) fs)
unfolding wents_of
wents-drop out [] ts fs q = refl
wents-drop out (u ∷ us) ts [] q = absurd (omega arith)
wents-drop out (u ∷ us) ts (f ∷ fs) q = wents-drop out us ts fs (omega arith)

-- what is said of a pass's lines
unfoldable pub said_of : List Act → List (List ℕ) → List Went
said_of acts ls = wents_of (apply acts ls) ls (fates_of acts)

-- for a pass whose acts are those of the upper part and then those of the tail
pub said-tail : (xs ys : List Act) (us ts : List (List ℕ)) → length xs ≡ length us → length ys ≡ length ts → length (fates_of (xs ++ ys)) ≡ length xs + length ys →
    drop (length us) (said_of (xs ++ ys) (us ++ ts)) ≡ lowers (length (apply xs us)) (said_of ys ts)
unfolding said_of
said-tail xs ys us ts p q r =
    let out : apply (xs ++ ys) (us ++ ts) ≡ apply xs us ++ apply ys ts = apply-append xs us ys ts p in
    let n : outs xs ≡ length (apply xs us) = sym (outs-apply xs us p) in
    let fs : drop (length us) (fates_of (xs ++ ys)) ≡ shifts (length (apply xs us)) (fates_of ys) =
    ap (λ (k : ℕ). drop k (fates_of (xs ++ ys))) (sym p) ∙ fates-cut xs ys ∙ ap (λ (k : ℕ). shifts k (fates_of ys)) n in
    wents-drop (apply (xs ++ ys) (us ++ ts)) us ts (fates_of (xs ++ ys)) (omega arith)
    ∙ ap (wents_of (apply (xs ++ ys) (us ++ ts)) ts) fs
    ∙ ap (λ (o : List (List ℕ)). wents_of o ts (shifts (length (apply xs us)) (fates_of ys))) out
    ∙ wents-lower (apply xs us) (apply ys ts) ts (fates_of ys)

-- the records of lines and of more lines
records-append : (F : Shape) (us ts : List Went) (i : ℕ) → records_from F i (us ++ ts) ≡ records_from F i us ++ records_from F (length us + i) ts
unfolding records_from
records-append F [] ts i = ap (λ (k : ℕ). records_from F k ts) (sym (zero-add i))
records-append F (u ∷ us) ts i =
    let q : length us + suc i ≡ suc (length us) + i = omega arith in
    ap (λ (r : List ℕ). record_bytes F i u ++ r) (records-append F us ts (suc i) ∙ ap (λ (k : ℕ). records_from F (suc i) us ++ records_from F k ts) q)
    ∙ sym (append_assoc (record_bytes F i u) (records_from F (suc i) us) (records_from F (suc (length us) + i) ts))

-- the bytes of the records behind the first k
pub records-drop : (F : Shape) (us ts : List Went) (i : ℕ) → drop (size_of F * length us) (records_from F i (us ++ ts)) ≡ records_from F (length us + i) ts
records-drop F us ts i = ap (drop (size_of F * length us)) (records-append F us ts i) ∙ drop_at (records_from F i us) (records_from F (length us + i) ts) (size_of F * length us) (records-length F us i)
