-- Laws of the reader. Assumes nothing.
use Prim.Native.Nat.{ℕ, zero, suc, ◌+◌, ◌-◌, ◌*◌, ◌/◌, ◌≤◌, ◌<◌}
use mathlib.Core.Path.{◌≡◌, refl, sym, ap, subst, ◌∙◌}
use mathlib.Core.Bool.{Bool, true, false, cond, not, ◌&&◌}
use mathlib.Core.List.{List, [], ◌∷◌, ◌++◌}
use native.Mathlib.Omega.{arith}
use native.Mathlib.Nat.{mul-suc}
use borrow.Author.Tests.{eq-eqb, ne_eqb, eqb-true, lt-ltb, le-ltb, ltb-false, ltb-true, le-leb, lt-leb}
use lib.Dec.{eqb, leb, ltb}
use lib.ListN.{length, take, drop, get_or, length-drop, length-append, drop_of_length-le}
use Rattle.std.proofs.Common.{take_all}
use Rattle.std.specs.Prelude.{count_by, filter}
use Rattle.std.proofs.lemmas.List.Sums.{length-filter}
use Rattle.std.proofs.lemmas.List.Recursion.{is_count_by}
use lib.Seq.{get_or-drop, drop-drop, drop-cons}
use Rattle.lines.specs.Lf.{word}
use Rattle.lines.specs.Inner.Out.{Wrote, put_at}
use Rattle.lines.proofs.Tests.{no, and_left, and_right}
use Rattle.lines.proofs.OutLaws.{Writing, writing_start, writing-as, writing-room, writing-put, writing-end, wrote-nil}
use Rattle.origins.specs.declared.Went.{Went}
use Rattle.origins.specs.declared.Went.TheVariants.{Away}
use Rattle.origins.specs.declared.Form.{Form}
use Rattle.origins.specs.declared.Form.TheVariants as form
use Rattle.origins.specs.Form.{Shape, form_shape, gone_of, size_of, record_bytes, records_from, file_of}
use Rattle.origins.specs.Read.{is_marked, line_in, fate_in, out_in, fault_in, went_in, Said, says, wrong, said_by, read_from, read_file}
use Rattle.origins.specs.Answers.{is_in, behind_from, behind, roomed_lines, lines_by, lines_for, fits_out, fits, fits_from, unfit, turn_by, turn}
use Rattle.origins.proofs.RoundTrip.{Good, good_of, record-length, file-length, unsay, never}
use Rattle.std.specs.declared.result.Result.{Result}
use Rattle.reader.specs.declared.Refusal.{Refusal}
use Rattle.reader.specs.declared.Refusal.TheVariants.{Cut, WrongMark, OutOfOrder, UnknownFate, Disagree, Unfit, Short, NoRoom}
use Rattle.std.specs.declared.result.Result.TheVariants.{Ok, Err}
use Rattle.reader.specs.Replies.{Reply, reply_number, reply_place, form_in, refusal, check_reply, lines_reply, lines_after, turned_reply, turned_after, wents_from, wents_in}
use Rattle.reader.specs.declared.each.Records.{Records}
use Rattle.reader.specs.Inner.Each.{left}
use Rattle.reader.specs.Inner.Walk.{checked_from, flaw_by, flaw, one_in}

-- ---- numbers

next : (i : ℕ) → suc i ≡ i + 1
next i = omega arith

pub two_is : (s : List ℕ) (i : ℕ) → i + 2 ≤ length s → get_or s (i + 1) 0 * 256 + get_or s i 0 ≡ word (take 2 (drop i s))
unfolding word
two_is s i h =
    let q : drop i s ≡ get_or s i 0 ∷ get_or s (i + 1) 0 ∷ drop (suc (suc i)) s = drop-cons s i 0 (omega arith) ∙ ap (λ (t : List ℕ). get_or s i 0 ∷ t) (drop-cons s (suc i) 0 (omega arith) ∙ ap (λ (k : ℕ). get_or s k 0 ∷ drop (suc (suc i)) s) (next i)) in
    rw q (omega arith)

two-of : (a b : ℕ) (t : List ℕ) → word (take 2 (a ∷ b ∷ t)) ≡ b * 256 + a
unfolding word
two-of a b t = omega arith

four-of : (a b : ℕ) (t : List ℕ) → word (take 4 (a ∷ b ∷ t)) ≡ (word (take 2 t) * 256 + b) * 256 + a
unfolding word
four-of a b t = refl

pub four_is : (s : List ℕ) (i : ℕ) → i + 4 ≤ length s → word (take 2 (drop (i + 2) s)) * 65536 + word (take 2 (drop i s)) ≡ word (take 4 (drop i s))
four_is s i h = go (get_or s i 0) (get_or s (i + 1) 0) (drop (i + 2) s) q
  where
    q : drop i s ≡ get_or s i 0 ∷ get_or s (i + 1) 0 ∷ drop (i + 2) s
    q = let m : suc (suc i) ≡ i + 2 = omega arith in drop-cons s i 0 (omega arith) ∙ ap (λ (t : List ℕ). get_or s i 0 ∷ t) (drop-cons s (suc i) 0 (omega arith) ∙ ap (λ (k : ℕ). get_or s k 0 ∷ drop (suc (suc i)) s) (next i) ∙ ap (λ (k : ℕ). get_or s (i + 1) 0 ∷ drop k s) m)

    by : (a b w v : ℕ) → v ≡ b * 256 + a → w * 65536 + v ≡ (w * 256 + b) * 256 + a
    by a b w v e = omega arith

    two : (a b : ℕ) (t : List ℕ) → word (take 2 (a ∷ b ∷ t)) ≡ b * 256 + a
    two a b t = two-of a b t

    go : (a b : ℕ) (t : List ℕ) → drop i s ≡ a ∷ b ∷ t → word (take 2 t) * 65536 + word (take 2 (drop i s)) ≡ word (take 4 (drop i s))
    go a b t e = rw e (by a b (word (take 2 t)) (word (take 2 (a ∷ b ∷ t))) (two a b t) ∙ sym (four-of a b t))

pub width-as : (f : Form) {x : Form} → f ≡ x → (form_shape x).width ≡ (form_shape f).width
width-as f e = ap (λ (y : Form). (form_shape y).width) (sym e)

pub number-as : (f : Form) {x : Form} (s : List ℕ) (i : ℕ) → f ≡ x → word (take (form_shape x).width (drop i s)) ≡ word (take (form_shape f).width (drop i s))
number-as f s i e = ap (λ (k : ℕ). word (take k (drop i s))) (width-as f e)

pub line-is : (F : Shape) (s : List ℕ) (o : ℕ) → word (take F.width (drop (o + 2) s)) ≡ line_in F (drop o s)
line-is F s o = ap (λ (t : List ℕ). word (take F.width t)) (sym (drop-drop 2 o s))

pub out-is : (F : Shape) (s : List ℕ) (o w : ℕ) → w ≡ F.width → word (take F.width (drop (o + 3 + w) s)) ≡ out_in F (drop o s)
out-is F s o w e =
    let q : o + 3 + w ≡ o + (3 + F.width) = omega arith in
    ap (λ (k : ℕ). word (take F.width (drop k s))) q ∙ ap (λ (t : List ℕ). word (take F.width t)) (sym (drop-drop (3 + F.width) o s))

pub fate-is : (F : Shape) (s : List ℕ) (o w : ℕ) → w ≡ F.width → get_or s (o + 2 + w) 0 ≡ fate_in F (drop o s)
fate-is F s o w e =
    let q : o + 2 + w ≡ o + (2 + F.width) = omega arith in
    ap (λ (k : ℕ). get_or s k 0) q ∙ sym (get_or-drop o s (2 + F.width) 0)

-- ---- the form

pub form-large : (s : List ℕ) (b : ℕ) → b ≡ get_or s 1 0 → b ≡ 77 → form.Om ≡ form_in s
form-large s b e h = rw (eq-eqb (get_or s 1 0) 77 (sym e ∙ h))

pub form_small : (s : List ℕ) (b : ℕ) → b ≡ get_or s 1 0 → (b ≡ 77 → ⊥) → form.Ol ≡ form_in s
form_small s b e h = rw (ne_eqb (get_or s 1 0) 77 (λ q. h (e ∙ q)))

-- ---- one record

module _ (F : Shape) (i : ℕ) (s : List ℕ) (o : ℕ) where
  first-at : get_or (drop o s) 0 0 ≡ get_or s o 0
  first-at = let q : o + 0 ≡ o = omega arith in get_or-drop o s 0 0 ∙ ap (λ (k : ℕ). get_or s k 0) q

  second_at : get_or (drop o s) 1 0 ≡ get_or s (o + 1) 0
  second_at = get_or-drop o s 1 0

  pub fault-cut : length s - o < size_of F → 1 ≡ fault_in F i (drop o s)
  unfolding fault_in
  fault-cut h = rw (lt-ltb (length (drop o s)) (size_of F) (omega (arith, length-drop o s)))

  module _ (long : size_of F ≤ length s - o) where
    whole : ltb (length (drop o s)) (size_of F) ≡ false
    whole = le-ltb (length (drop o s)) (size_of F) (omega (arith, length-drop o s))

    pub fault-first : (get_or s o 0 ≡ 79 → ⊥) → 2 ≡ fault_in F i (drop o s)
    unfolding fault_in
    fault-first x = rw (whole, first-at, ne_eqb (get_or s o 0) 79 x)

    pub fault-second : get_or s o 0 ≡ 79 → (get_or s (o + 1) 0 ≡ F.letter → ⊥) → 2 ≡ fault_in F i (drop o s)
    unfolding fault_in
    fault-second x y = rw (whole, first-at, eq-eqb (get_or s o 0) 79 x, second_at, ne_eqb (get_or s (o + 1) 0) F.letter y)

    module _ (x : get_or s o 0 ≡ 79) (y : get_or s (o + 1) 0 ≡ F.letter) where
      marked : not (eqb (get_or (drop o s) 0 0) 79 && eqb (get_or (drop o s) 1 0) F.letter) ≡ false
      marked = rw (first-at, eq-eqb (get_or s o 0) 79 x, second_at, eq-eqb (get_or s (o + 1) 0) F.letter y)

      pub fault-line : (line_in F (drop o s) ≡ i → ⊥) → 3 ≡ fault_in F i (drop o s)
      unfolding fault_in
      fault-line h = rw (whole, marked, ne_eqb (line_in F (drop o s)) i h)

      module _ (l : line_in F (drop o s) ≡ i) where
        in-line : eqb (line_in F (drop o s)) i ≡ true
        in-line = eq-eqb (line_in F (drop o s)) i l

        pub fault-fate : 3 < fate_in F (drop o s) → 4 ≡ fault_in F i (drop o s)
        unfolding fault_in
        fault-fate h = rw (whole, marked, in-line, lt-ltb 3 (fate_in F (drop o s)) h)

        pub fault-gone : fate_in F (drop o s) ≡ 3 → (b : Bool) → eqb (out_in F (drop o s)) (gone_of F) ≡ b → cond b 0 5 ≡ fault_in F i (drop o s)
        unfolding fault_in
        fault-gone h b e = rw (whole, marked, in-line, le-ltb 3 (fate_in F (drop o s)) (omega arith), eq-eqb (fate_in F (drop o s)) 3 h, e)

        pub fault-kept : fate_in F (drop o s) ≤ 3 → (fate_in F (drop o s) ≡ 3 → ⊥) → (b : Bool) → eqb (out_in F (drop o s)) (gone_of F) ≡ b → cond b 5 0 ≡ fault_in F i (drop o s)
        unfolding fault_in
        fault-kept k h b e = rw (whole, marked, in-line, le-ltb 3 (fate_in F (drop o s)) k, ne_eqb (fate_in F (drop o s)) 3 h, e)

-- ---- the check

pub record CheckInv (F : Shape) (s : List ℕ) (i o : ℕ) : Type 0 where
  pub i≤ : i ≤ o
  pub o≤ : o ≤ length s
  pub same : check_reply (read_file F s) ≡ checked_from i (read_from F (length s - i) i (drop o s))

checked-start : (r : Said) → check_reply r ≡ checked_from 0 r
checked-start (says ws) = let q : length ws ≡ 0 + length ws = omega arith in ap Ok q
checked-start (wrong c j) = refl

pub check-start : (F : Shape) (s : List ℕ) → CheckInv F s 0 0
unfolding read_file
check-start F s =
    let q : length s ≡ length s - 0 = omega arith in
    record { i≤ = omega arith; o≤ = omega arith; same = ap (λ (n : ℕ). check_reply (read_from F n 0 s)) q ∙ checked-start (read_from F (length s - 0) 0 s) }

read_none : (F : Shape) (n i : ℕ) → read_from F n i [] ≡ says []
unfolding read_from
read_none F zero i = refl
read_none F (suc n) i = refl

read_more : (F : Shape) (n i : ℕ) (s : List ℕ) → 0 < length s → read_from F (suc n) i s ≡ said_by (fault_in F i s) i (went_in F s) (read_from F n (suc i) (drop (size_of F) s))
unfolding read_from
read_more F n i s h = rw (ne_eqb (length s) 0 (omega arith))

checked-next : (i : ℕ) (w : Went) (r : Said) → checked_from i (said_by 0 i w r) ≡ checked_from (i + 1) r
unfolding said_by
checked-next i w (says ws) = let q : i + suc (length ws) ≡ i + 1 + length ws = omega arith in ap Ok q
checked-next i w (wrong c j) = refl

checked-bad : (c i : ℕ) (w : Went) (r : Said) → (c ≡ 0 → ⊥) → checked_from i (said_by c i w r) ≡ refusal c i
unfolding said_by
checked-bad zero i w r h = absurd (h refl)
checked-bad (suc c) i w r h = refl

module _ {F : Shape} {s : List ℕ} {i o : ℕ} (h : CheckInv F s i o) where
  pub check-end : length s ≤ o → Ok i ≡ check_reply (read_file F s)
  check-end k =
      let q : i ≡ i + 0 = omega arith in
      ap Ok q ∙ sym (h.same ∙ ap (λ (t : List ℕ). checked_from i (read_from F (length s - i) i t)) (drop_of_length-le s k) ∙ ap (checked_from i) (read_none F (length s - i) i))

  module _ (a : o < length s) (c : ℕ) (e : c ≡ fault_in F i (drop o s)) where
    now : check_reply (read_file F s) ≡ checked_from i (said_by c i (went_in F (drop o s)) (read_from F (length s - (i + 1)) (i + 1) (drop (o + size_of F) s)))
    now =
        let q : length s - i ≡ suc (length s - (i + 1)) = omega (arith, h.i≤) in
        h.same
        ∙ ap (λ (n : ℕ). checked_from i (read_from F n i (drop o s))) q
        ∙ ap (checked_from i) (read_more F (length s - (i + 1)) i (drop o s) (omega (arith, length-drop o s)))
        ∙ ap (λ (d : ℕ). checked_from i (said_by d i (went_in F (drop o s)) (read_from F (length s - (i + 1)) (suc i) (drop (size_of F) (drop o s))))) (sym e)
        ∙ ap (λ (t : List ℕ). checked_from i (said_by c i (went_in F (drop o s)) (read_from F (length s - (i + 1)) (suc i) t))) (drop-drop (size_of F) o s)
        ∙ ap (λ (j : ℕ). checked_from i (said_by c i (went_in F (drop o s)) (read_from F (length s - (i + 1)) j (drop (o + size_of F) s)))) (next i)

    pub check-bad : (c ≡ 0 → ⊥) → refusal c i ≡ check_reply (read_file F s)
    check-bad z = sym (now ∙ checked-bad c i _ _ z)

    pub check-long : c ≡ 0 → o + size_of F ≤ length s
    check-long z = omega (arith, (good_of F i (drop o s) (sym e ∙ z)).long, length-drop o s)

    pub check-on : c ≡ 0 → CheckInv F s (i + 1) (o + size_of F)
    check-on z = record {
      i≤ = omega (arith, h.i≤);
      o≤ = check-long z;
      same = now ∙ ap (λ (d : ℕ). checked_from i (said_by d i (went_in F (drop o s)) (read_from F (length s - (i + 1)) (i + 1) (drop (o + size_of F) s)))) z ∙ checked-next i _ _;
    }

-- ---- the whole records, one after another

wents-more : (F : Shape) (n : ℕ) (s : List ℕ) → size_of F ≤ length s → wents_from F (suc n) s ≡ went_in F s ∷ wents_from F n (drop (size_of F) s)
unfolding wents_from
wents-more F n s h = rw (le-ltb (length s) (size_of F) h)

wents-none : (F : Shape) (n : ℕ) (s : List ℕ) → length s < size_of F → wents_from F n s ≡ []
unfolding wents_from
wents-none F zero s h = refl
wents-none F (suc n) s h = rw (lt-ltb (length s) (size_of F) h)

-- no more records are looked for than bytes are there
wents_enough : (F : Shape) (n m : ℕ) (s : List ℕ) → length s ≤ n → length s ≤ m → wents_from F n s ≡ wents_from F m s
wents_enough F zero m s h k = wents-none F zero s (omega arith) ∙ sym (wents-none F m s (omega arith))
wents_enough F (suc n) zero s h k = wents-none F (suc n) s (omega arith) ∙ sym (wents-none F zero s (omega arith))
wents_enough F (suc n) (suc m) s h k = go (ltb (length s) (size_of F)) refl (wents_enough F n m (drop (size_of F) s))
  where
    go : (b : Bool) → ltb (length s) (size_of F) ≡ b → (length (drop (size_of F) s) ≤ n → length (drop (size_of F) s) ≤ m → wents_from F n (drop (size_of F) s) ≡ wents_from F m (drop (size_of F) s)) → wents_from F (suc n) s ≡ wents_from F (suc m) s
    go true e r = let l = ltb-true (length s) (size_of F) e in wents-none F (suc n) s l ∙ sym (wents-none F (suc m) s l)
    go false e r =
        let l = ltb-false (length s) (size_of F) e in
        wents-more F n s l
        ∙ ap (λ (ws : List Went). went_in F s ∷ ws) (r (omega (arith, length-drop (size_of F) s)) (omega (arith, length-drop (size_of F) s)))
        ∙ sym (wents-more F m s l)

pub wents-first : (F : Shape) (s : List ℕ) → size_of F ≤ length s → wents_in F s ≡ went_in F s ∷ wents_in F (drop (size_of F) s)
unfolding wents_in
wents-first F s h =
    wents_enough F (length s) (suc (length s)) s (omega arith) (omega arith)
    ∙ wents-more F (length s) s h
    ∙ ap (λ (ws : List Went). went_in F s ∷ ws) (wents_enough F (length s) (length (drop (size_of F) s)) (drop (size_of F) s) (omega (arith, length-drop (size_of F) s)) (omega arith))

pub wents-over : (F : Shape) (s : List ℕ) → length s < size_of F → wents_in F s ≡ []
unfolding wents_in
wents-over F s h = wents-none F (length s) s h

-- the first of them, and the rest of the bytes as a part up to the end
pub wents-next : (F : Shape) (s : List ℕ) (z : ℕ) (w : Went) → z ≡ size_of F → z ≤ length s → w ≡ went_in F (drop 0 s) → wents_in F s ≡ w ∷ wents_in F (take (length s - z) (drop z s))
wents-next F s z w e h q =
    let a : take (length s - z) (drop z s) ≡ drop z s = take_all (length s - z) (drop z s) (omega (arith, length-drop z s)) in
    wents-first F s (omega arith)
    ∙ ap (λ (x : Went). x ∷ wents_in F (drop (size_of F) s)) (sym q)
    ∙ ap (λ (n : ℕ). w ∷ wents_in F (drop n s)) (sym e)
    ∙ ap (λ (t : List ℕ). w ∷ wents_in F t) (sym a)

-- all of them are left where the walk over a file begins
pub each-all : (f : Form) (s : List ℕ) {r it : Records} → it ≡ r → r.form ≡ f → r.bytes.now ≡ s → left it ≡ wents_in (form_shape f) s
each-all f s {r = r} e q b = ap left e ∙ ap (λ (g : Form). wents_in (form_shape g) r.bytes.now) q ∙ ap (wents_in (form_shape f)) b

-- ---- counting

behind-split : (n i : ℕ) (w : Went) (ws : List Went) → behind_from n i (w ∷ ws) ≡ one_in n i w ++ behind_from n (i + 1) ws
unfolding behind_from
behind-split n i w ws = go (is_in n w)
  where
    go : (b : Bool) → cond b (i ∷ behind_from n (suc i) ws) (behind_from n (suc i) ws) ≡ cond b (i ∷ []) [] ++ behind_from n (i + 1) ws
    go true = ap (λ (j : ℕ). i ∷ behind_from n j ws) (next i)
    go false = ap (λ (j : ℕ). behind_from n j ws) (next i)

one-length : (n i : ℕ) (w : Went) → length (one_in n i w) ≡ cond (is_in n w) 1 0
one-length n i w = go (is_in n w)
  where
    go : (b : Bool) → length (cond b (i ∷ []) []) ≡ cond b 1 0
    go true = refl
    go false = refl

behind-none : (n i : ℕ) → behind_from n i [] ≡ []
unfolding behind_from
behind-none n i = refl

-- how many there are does not hang on the number of the first line
behind_as_many : (n i j : ℕ) (ws : List Went) → length (behind_from n i ws) ≡ length (behind_from n j ws)
unfolding behind_from
behind_as_many n i j [] = refl
behind_as_many n i j (w ∷ ws) = go (is_in n w) (behind_as_many n (suc i) (suc j) ws)
  where
    go : (b : Bool) → length (behind_from n (suc i) ws) ≡ length (behind_from n (suc j) ws) → length (cond b (i ∷ behind_from n (suc i) ws) (behind_from n (suc i) ws)) ≡ length (cond b (j ∷ behind_from n (suc j) ws) (behind_from n (suc j) ws))
    go true e = ap suc e
    go false e = e

behind_one : (n : ℕ) (w : Went) (ws : List Went) → length (behind_from n 0 (w ∷ ws)) ≡ cond (is_in n w) (1 + length (behind_from n 0 ws)) (length (behind_from n 0 ws))
unfolding behind_from
behind_one n w ws = go (is_in n w) (behind_as_many n 1 0 ws)
  where
    go : (b : Bool) → length (behind_from n 1 ws) ≡ length (behind_from n 0 ws) → length (cond b (0 ∷ behind_from n 1 ws) (behind_from n 1 ws)) ≡ cond b (1 + length (behind_from n 0 ws)) (length (behind_from n 0 ws))
    go true e = omega arith
    go false e = e

behind-count : (n : ℕ) (ws : List Went) → count_by (is_in n) ws ≡ length (behind n ws)
unfolding behind
behind-count n ws = sym (is_count_by (λ us. length (behind_from n 0 us)) (is_in n) (ap length (behind-none n 0)) (behind_one n) ws)

pub behind-filter : (n : ℕ) (ws : List Went) → length (filter (is_in n) ws) ≡ length (behind n ws)
behind-filter n ws = length-filter (is_in n) ws ∙ behind-count n ws

-- ---- writing them

pub record BehindInv (all : List ℕ) (n i : ℕ) (ws : List Went) (d₀ d : List ℕ) (k : ℕ) : Type 0 where
  pub writing : Writing 0 all (behind_from n i ws) d₀ d k

module _ {all : List ℕ} {n i x k : ℕ} {d₀ d : List ℕ} {w : Went} {ws us : List Went} (h : BehindInv all n i ws d₀ d k) (e : ws ≡ w ∷ us) (q : x ≡ i) where
  behind-now : Writing 0 all (one_in n x w ++ behind_from n (x + 1) us) d₀ d k
  behind-now = writing-as (ap (λ (m : ℕ). behind_from n m ws) (sym q) ∙ ap (behind_from n x) e ∙ behind-split n x w us) h.writing

  pub behind-room : k + length (one_in n x w) ≤ length d
  behind-room = omega (arith, writing-room behind-now, length-append (one_in n x w) (behind_from n (x + 1) us))

  pub behind-on : {j : ℕ} → j ≡ i + 1 → {d' : List ℕ} {r : ℕ} → Wrote d k (one_in n x w) d' r → BehindInv all n j us d₀ d' r
  behind-on {j} p z = let m : x + 1 ≡ j = omega arith in record { writing = writing-as (ap (λ (y : ℕ). behind_from n y us) m) (writing-put behind-now z) }

pub behind-end : {all : List ℕ} {n i k : ℕ} {d₀ d : List ℕ} {ws : List Went} → BehindInv all n i ws d₀ d k → ws ≡ [] → Wrote d₀ 0 all d k
behind-end {n = n} {i = i} h e = writing-end (writing-as (ap (behind_from n i) e ∙ behind-none n i) h.writing)

behind-is : (n : ℕ) (ws : List Went) → behind n ws ≡ behind_from n 0 ws
unfolding behind
behind-is n ws = refl

pub behind-begin : (all : List Went) (n i : ℕ) (d : List ℕ) (ws : List Went) → length (behind n all) ≤ length d → i ≡ 0 → ws ≡ all → BehindInv (behind n all) n i ws d d 0
behind-begin all n i d ws h q e =
    record { writing = writing-as (behind-is n all ∙ ap (behind_from n 0) (sym e) ∙ ap (λ (m : ℕ). behind_from n m ws) (sym q)) (writing_start 0 (behind n all) d (omega arith)) }

pub one-put : (n i : ℕ) (w : Went) (d : List ℕ) (k : ℕ) → is_in n w ≡ true → k < length d → (x : List ℕ) (r : ℕ) → Wrote d k (i ∷ []) x r → Wrote d k (one_in n i w) x r
one-put n i w d k e h x r z = rw e z

pub one_none : (n i : ℕ) (w : Went) (d : List ℕ) (k : ℕ) → is_in n w ≡ false → k + length (one_in n i w) ≤ length d → Wrote d k (one_in n i w) d k
one_none n i w d k e h = rw e (wrote-nil d k (omega arith))

pub one-room : (n i : ℕ) (w : Went) (d : List ℕ) (k : ℕ) → is_in n w ≡ true → k + length (one_in n i w) ≤ length d → k < length d
one-room n i w d k e h = let q : length (one_in n i w) ≡ 1 = one-length n i w ∙ ap (λ (b : Bool). cond b 1 0) e in omega arith

-- ---- a record by its number

pub record-in : (f : Form) (z i n : ℕ) → z ≡ size_of (form_shape f) → i < n / z → z * i + z ≤ n
record-in form.Ol z i n e h = let q : z ≡ 7 = e in go q h
  where
    go : z ≡ 7 → i < n / z → z * i + z ≤ n
    go q k = rw q (let m : i < n / 7 = subst (λ (y : ℕ). i < n / y) q k in omega arith)
record-in form.Om z i n e h = let q : z ≡ 11 = e in go q h
  where
    go : z ≡ 11 → i < n / z → z * i + z ≤ n
    go q k = rw q (let m : i < n / 11 = subst (λ (y : ℕ). i < n / y) q k in omega arith)

pub record-past : (f : Form) (z i n : ℕ) → z ≡ size_of (form_shape f) → n / z ≤ i → n < z * i + z
record-past form.Ol z i n e h = let q : z ≡ 7 = e in go q h
  where
    go : z ≡ 7 → n / z ≤ i → n < z * i + z
    go q k = rw q (let m : n / 7 ≤ i = subst (λ (y : ℕ). n / y ≤ i) q k in omega arith)
record-past form.Om z i n e h = let q : z ≡ 11 = e in go q h
  where
    go : z ≡ 11 → n / z ≤ i → n < z * i + z
    go q k = rw q (let m : n / 11 ≤ i = subst (λ (y : ℕ). n / y ≤ i) q k in omega arith)

get_in : (F : Shape) (i n : ℕ) (s : List ℕ) → length s ≤ n → size_of F * i + size_of F ≤ length s → get_or (wents_from F n s) i Away ≡ went_in F (drop (size_of F * i) s)
get_in F i zero s k h = absurd (omega arith)
get_in F zero (suc n) s k h =
    let q : size_of F * 0 ≡ 0 = omega arith in
    ap (λ (ws : List Went). get_or ws 0 Away) (wents-more F n s (omega arith)) ∙ ap (λ (j : ℕ). went_in F (drop j s)) (sym q)
get_in F (suc i) (suc n) s k h =
    let q : size_of F * suc i ≡ size_of F * i + size_of F = mul-suc (size_of F) i in
    let m : size_of F + size_of F * i ≡ size_of F * suc i = omega arith in
    ap (λ (ws : List Went). get_or ws (suc i) Away) (wents-more F n s (omega arith))
    ∙ get_in F i n (drop (size_of F) s) (omega (arith, length-drop (size_of F) s)) (omega (arith, length-drop (size_of F) s))
    ∙ ap (went_in F) (drop-drop (size_of F * i) (size_of F) s ∙ ap (λ (j : ℕ). drop j s) m)

get-past : (F : Shape) (i n : ℕ) (s : List ℕ) → length s < size_of F * i + size_of F → get_or (wents_from F n s) i Away ≡ Away
unfolding wents_from
get-past F i zero s h = refl
get-past F zero (suc n) s h = ap (λ (ws : List Went). get_or ws 0 Away) (wents-none F (suc n) s (omega arith))
get-past F (suc i) (suc n) s h =
    let q : size_of F * suc i ≡ size_of F * i + size_of F = mul-suc (size_of F) i in
    go (ltb (length s) (size_of F)) refl (get-past F i n (drop (size_of F) s) (omega (arith, length-drop (size_of F) s)))
  where
    go : (b : Bool) → ltb (length s) (size_of F) ≡ b → get_or (wents_from F n (drop (size_of F) s)) i Away ≡ Away → get_or (cond b [] (went_in F s ∷ wents_from F n (drop (size_of F) s))) (suc i) Away ≡ Away
    go true e z = refl
    go false e z = z

pub record_is : (F : Shape) (s : List ℕ) (i z : ℕ) → z ≡ size_of F → z * i + z ≤ length s → (w : Went) → w ≡ went_in F (drop (z * i) s) → w ≡ get_or (wents_in F s) i Away
unfolding wents_in
record_is F s i z e h w f = f ∙ ap (λ (y : ℕ). went_in F (drop (y * i) s)) e ∙ sym (get_in F i (length s) s (omega arith) (subst (λ (y : ℕ). y * i + y ≤ length s) e h))

pub record-away : (F : Shape) (s : List ℕ) (i z : ℕ) → z ≡ size_of F → length s < z * i + z → Away ≡ get_or (wents_in F s) i Away
unfolding wents_in
record-away F s i z e h = sym (get-past F i (length s) s (subst (λ (y : ℕ). length s < y * i + y) e h))

-- ---- what the check says of the whole records

module _ (F : Shape) (n i : ℕ) (s : List ℕ) (ws : List Went) (again : (vs : List Went) → read_from F n (suc i) (drop (size_of F) s) ≡ says vs → wents_from F n (drop (size_of F) s) ≡ vs) where
  said_more : (r : Said) → read_from F n (suc i) (drop (size_of F) s) ≡ r → Good F i s → said_by 0 i (went_in F s) r ≡ says ws → wents_from F (suc n) s ≡ ws
  unfolding said_by
  said_more (says vs) e g z = wents-more F n s g.long ∙ ap (λ (us : List Went). went_in F s ∷ us) (again vs e) ∙ unsay z
  said_more (wrong c j) e g z = never z

  said-fault : (c : ℕ) → fault_in F i s ≡ c → said_by c i (went_in F s) (read_from F n (suc i) (drop (size_of F) s)) ≡ says ws → wents_from F (suc n) s ≡ ws
  unfolding said_by
  said-fault zero e z = said_more _ refl (good_of F i s e) z
  said-fault (suc c) e z = never z

  said-start : (t : Bool) → eqb (length s) 0 ≡ t → cond t (says []) (said_by (fault_in F i s) i (went_in F s) (read_from F n (suc i) (drop (size_of F) s))) ≡ says ws → wents_from F (suc n) s ≡ ws
  said-start true e z = let q = eqb-true (length s) 0 e in wents-none F (suc n) s (omega arith) ∙ unsay z
  said-start false e z = said-fault (fault_in F i s) refl z

wents-said : (F : Shape) (n i : ℕ) (s : List ℕ) (ws : List Went) → read_from F n i s ≡ says ws → wents_from F n s ≡ ws
unfolding read_from wents_from
wents-said F zero i s ws h = unsay h
wents-said F (suc n) i s ws h = said-start F n i s ws (λ (vs : List Went) e. wents-said F n (suc i) (drop (size_of F) s) vs e) (eqb (length s) 0) refl h

pub said-wents : (F : Shape) (s : List ℕ) (ws : List Went) → read_file F s ≡ says ws → wents_in F s ≡ ws
unfolding read_file wents_in
said-wents F s ws h = wents-said F (length s) 0 s ws h

abbrev pub is_fine : Reply → Bool
is_fine (Ok n) = true
is_fine (Err e) = false

not-fine : (c j : ℕ) → is_fine (refusal c j) ≡ false
not-fine c j = go (eqb c 1) (eqb c 2) (eqb c 3) (eqb c 4) (eqb c 5) (eqb c 6)
  where
    go : (p q r t u v : Bool) → is_fine (cond p (Err (Cut j)) (cond q (Err (WrongMark j)) (cond r (Err (OutOfOrder j)) (cond t (Err (UnknownFate j)) (cond u (Err (Disagree j)) (cond v (Err (Unfit j)) (Err (Short j)))))))) ≡ false
    go true q r t u v = refl
    go false true r t u v = refl
    go false false true t u v = refl
    go false false false true u v = refl
    go false false false false true v = refl
    go false false false false false true = refl
    go false false false false false false = refl

unfine : {m n : ℕ} → ◌≡◌ {A = Reply} (Ok m) (Ok n) → m ≡ n
unfine h = ap out h
  where
    out : Reply → ℕ
    out (Ok n) = n
    out (Err e) = 0

-- a file that is right says what its whole records say
pub fine-says : (F : Shape) (s : List ℕ) (m : ℕ) → Ok m ≡ check_reply (read_file F s) → (read_file F s ≡ says (wents_in F s)) × (m ≡ length (wents_in F s))
unfolding read_file wents_in
fine-says F s m h = go (read_file F s) refl h
  where
    go : (r : Said) → read_file F s ≡ r → Ok m ≡ check_reply r → (read_file F s ≡ says (wents_in F s)) × (m ≡ length (wents_in F s))
    go (says ws) e z =
        let q : wents_in F s ≡ ws = wents-said F (length s) 0 s ws e in
        (e ∙ ap says (sym q), omega (arith, unfine z, ap length q))
    go (wrong c j) e z = no (sym (ap is_fine z ∙ not-fine c j))

-- a record has none of the faults that only the other form and the room have
no_six : (F : Shape) (i : ℕ) (s : List ℕ) → eqb (fault_in F i s) 6 ≡ false
unfolding fault_in
no_six F i s = go (ltb (length s) (size_of F)) (is_marked F s) (eqb (line_in F s) i) (ltb 3 (fate_in F s)) (eqb (fate_in F s) 3) (eqb (out_in F s) (gone_of F))
  where
    go : (p q r t u v : Bool) → eqb (cond p 1 (cond (not q) 2 (cond (not r) 3 (cond t 4 (cond u (cond v 0 5) (cond v 5 0)))))) 6 ≡ false
    go true q r t u v = refl
    go false false r t u v = refl
    go false true false t u v = refl
    go false true true true u v = refl
    go false true true false true true = refl
    go false true true false true false = refl
    go false true true false false true = refl
    go false true true false false false = refl

no_six_from : (F : Shape) (n i : ℕ) (s : List ℕ) (c j : ℕ) → read_from F n i s ≡ wrong c j → eqb c 6 ≡ false
unfolding read_from said_by
no_six_from F zero i s c j h = never (sym h)
no_six_from F (suc n) i s c j h = go (eqb (length s) 0) (fault_in F i s) (read_from F n (suc i) (drop (size_of F) s)) (no_six F i s) (no_six_from F n (suc i) (drop (size_of F) s) c j) h
  where
    go : (b : Bool) (k : ℕ) (r : Said) → eqb k 6 ≡ false → (r ≡ wrong c j → eqb c 6 ≡ false) → cond b (says []) (said_by k i (went_in F s) r) ≡ wrong c j → eqb c 6 ≡ false
    go true k r e q z = never (sym z)
    go false zero (says ws) e q z = never (sym z)
    go false zero (wrong a b) e q z = q z
    go false (suc k) r e q z = ap (λ (x : ℕ). eqb x 6) (sym (code z)) ∙ e
      where
        fault : Said → ℕ
        fault (says ws) = 0
        fault (wrong a b) = a

        code : wrong (suc k) i ≡ wrong c j → suc k ≡ c
        code y = ap fault y

-- so a refusal of a file is passed on as it is
pub passed : (F : Shape) (s : List ℕ) (c j : ℕ) → read_file F s ≡ wrong c j → refusal c j ≡ cond (eqb c 6) (Err (NoRoom j)) (refusal c j)
unfolding read_file
passed F s c j h = rw (no_six_from F (length s) 0 s c j h) refl

-- ---- what is said of one record

abbrev back : Result (Unit {0}) Refusal → Reply
back (Ok u) = Ok 0
back (Err e) = Err e

pub flaw-none : (c i : ℕ) → Ok tt ≡ flaw c i → c ≡ 0
flaw-none zero i h = refl
flaw-none (suc c) i h = go (refusal (suc c) i) (not-fine (suc c) i) h
  where
    go : (r : Reply) → is_fine r ≡ false → Ok tt ≡ flaw_by r → suc c ≡ 0
    go (Ok n) f z = no (sym f)
    go (Err d) f z = no (sym (ap is_fine (ap back z)))

pub flaw-some : (c i : ℕ) (e : Refusal) → Err e ≡ flaw c i → (c ≡ 0 → ⊥) × (◌≡◌ {A = Reply} (Err e) (refusal c i))
flaw-some zero i e h = no (ap is_fine (ap back h))
flaw-some (suc c) i e h = (λ z. omega (arith, z), go (refusal (suc c) i) h)
  where
    go : (r : Reply) → Err e ≡ flaw_by r → ◌≡◌ {A = Reply} (Err e) r
    go (Ok n) z = no (ap is_fine (ap back z))
    go (Err d) z = ap back z

module _ (F : Shape) (s d : List ℕ) (y : Reply) (h : y ≡ check_reply (read_file F s)) where
  pub lines-refused : (n : ℕ) → is_fine y ≡ false → (y ≡ lines_reply (lines_for F s n (length d))) × (d ≡ lines_after (lines_for F s n (length d)) d)
  unfolding lines_for
  lines-refused n f = go (read_file F s) refl h
    where
      go : (r : Said) → read_file F s ≡ r → y ≡ check_reply r → (y ≡ lines_reply (lines_by n (length d) r)) × (d ≡ lines_after (lines_by n (length d) r) d)
      go (says ws) e z = no (sym f ∙ ap is_fine z)
      go (wrong c j) e z = (z ∙ passed F s c j e, refl)

  pub turn-refused : (G : Shape) → is_fine y ≡ false → (y ≡ turned_reply (turn F G s (length d))) × (d ≡ turned_after (turn F G s (length d)) d)
  unfolding turn
  turn-refused G f = go (read_file F s) h
    where
      go : (r : Said) → y ≡ check_reply r → (y ≡ turned_reply (turn_by G (length d) r)) × (d ≡ turned_after (turn_by G (length d) r) d)
      go (says ws) z = no (sym f ∙ ap is_fine z)
      go (wrong c j) z = (z, refl)

pub lines-for : (F : Shape) (s : List ℕ) (x : Reply) (m n room : ℕ) → x ≡ check_reply (read_file F s) → x ≡ Ok m → roomed_lines (behind n (wents_in F s)) room ≡ lines_for F s n room
unfolding lines_for
lines-for F s x m n room h e = rw (fine-says F s m (sym e ∙ h)).0

-- ---- the answer

front : (d xs d' : List ℕ) (r : ℕ) → Wrote d 0 xs d' r → d' ≡ xs ++ drop (length xs) d
unfolding put_at
front d xs d' r w = let q : 0 + length xs ≡ length xs = omega arith in w.holds ∙ ap (λ (n : ℕ). xs ++ drop n d) q

module _ (ls d : List ℕ) where
  pub answer-short : (k : ℕ) → k ≡ length ls → length d < k → (Err (NoRoom k) ≡ lines_reply (roomed_lines ls (length d))) × (d ≡ lines_after (roomed_lines ls (length d)) d)
  answer-short k e h = rw (lt-ltb (length d) (length ls) (omega arith)) (ap (λ (n : ℕ). Err (NoRoom n)) e, refl)

  pub answer-found : (d' : List ℕ) (k m : ℕ) → k ≡ length ls → k ≤ length d → Wrote d 0 ls d' m → (Ok m ≡ lines_reply (roomed_lines ls (length d))) × (d' ≡ lines_after (roomed_lines ls (length d)) d)
  answer-found d' k m e h w = let q : m ≡ length ls = omega (arith, w.place) in rw (le-ltb (length d) (length ls) (omega arith)) (ap Ok q, front d ls d' m w)

-- ---- the other form

fit_all : (G : Shape) (i : ℕ) (ws : List Went) → fits_from G i ws ≡ true → unfit G i ws ≡ i + length ws
unfolding fits_from unfit
fit_all G i [] h = omega arith
fit_all G i (w ∷ ws) h =
    let q = fit_all G (suc i) ws (and_right (fits G i w) (fits_from G (suc i) ws) h) in
    rw (and_left (fits G i w) (fits_from G (suc i) ws) h) (omega (arith, q))

fit-some : (G : Shape) (i : ℕ) (ws : List Went) → fits_from G i ws ≡ false → unfit G i ws < i + length ws
unfolding fits_from unfit
fit-some G i [] h = no (sym h)
fit-some G i (w ∷ ws) h = go (fits G i w) (λ z. fit-some G (suc i) ws z) h
  where
    go : (b : Bool) → (fits_from G (suc i) ws ≡ false → unfit G (suc i) ws < suc i + length ws) → b && fits_from G (suc i) ws ≡ false → cond b (unfit G (suc i) ws) i < i + suc (length ws)
    go true r z = omega (arith, r z)
    go false r z = omega arith

pub unfit-here : (G : Shape) (i : ℕ) (ws : List Went) → unfit G i ws < i + length ws → fits_from G i ws ≡ false
unfit-here G i ws h = go (fits_from G i ws) refl
  where
    go : (b : Bool) → fits_from G i ws ≡ b → fits_from G i ws ≡ false
    go true e = absurd (omega (arith, fit_all G i ws e))
    go false e = e

pub unfit-nowhere : (G : Shape) (i : ℕ) (ws : List Went) → i + length ws ≤ unfit G i ws → fits_from G i ws ≡ true
unfit-nowhere G i ws h = go (fits_from G i ws) refl
  where
    go : (b : Bool) → fits_from G i ws ≡ b → fits_from G i ws ≡ true
    go true e = e
    go false e = absurd (omega (arith, fit-some G i ws e))

-- whether one fits
pub fits-past : (G : Shape) (i : ℕ) (w : Went) (n : ℕ) → n ≡ gone_of G → n < i → false ≡ fits G i w
fits-past G i w n e h = rw (gt-leb)
  where
    gt-leb : leb i (gone_of G) ≡ false
    gt-leb = lt-leb i (gone_of G) (omega arith)

pub fits_by : (G : Shape) (i : ℕ) (w x : Went) (n : ℕ) → n ≡ gone_of G → i ≤ n → w ≡ x → fits_out G x ≡ fits G i w
fits_by G i w x n e h f = rw (le-leb i (gone_of G) (omega arith), f)

-- the first that does not
pub record FitInv (G : Shape) (all : List Went) (i : ℕ) (ws : List Went) : Type 0 where
  pub same : unfit G 0 all ≡ unfit G i ws
  pub count : i + length ws ≡ length all

pub fit-begin : (G : Shape) (all : List Went) {i : ℕ} {ws : List Went} → i ≡ 0 → ws ≡ all → FitInv G all i ws
fit-begin G all {i} {ws} q e = record {
  same = ap (unfit G 0) (sym e) ∙ ap (λ (m : ℕ). unfit G m ws) (sym q);
  count = omega (arith, ap length e);
}

unfit-one : (G : Shape) (i : ℕ) (w : Went) (ws : List Went) → unfit G i (w ∷ ws) ≡ cond (fits G i w) (unfit G (i + 1) ws) i
unfolding unfit
unfit-one G i w ws = ap (λ (j : ℕ). cond (fits G i w) (unfit G j ws) i) (next i)

unfit-none : (G : Shape) (i : ℕ) → unfit G i [] ≡ i
unfolding unfit
unfit-none G i = refl

module _ {G : Shape} {all : List Went} {i x : ℕ} {w : Went} {ws us : List Went} (h : FitInv G all i ws) (e : ws ≡ w ∷ us) (q : x ≡ i) where
  fit-now : (b : Bool) → fits G x w ≡ b → unfit G 0 all ≡ cond b (unfit G (x + 1) us) x
  fit-now b f = h.same ∙ ap (λ (m : ℕ). unfit G m ws) (sym q) ∙ ap (unfit G x) e ∙ unfit-one G x w us ∙ ap (λ (c : Bool). cond c (unfit G (x + 1) us) x) f

  pub fit-bad : fits G x w ≡ false → x ≡ unfit G 0 all
  fit-bad f = sym (fit-now false f)

  pub fit_on : {j : ℕ} → j ≡ i + 1 → fits G x w ≡ true → FitInv G all j us
  fit_on {j} p f =
      let m : x + 1 ≡ j = omega arith in
      record { same = fit-now true f ∙ ap (λ (y : ℕ). unfit G y us) m; count = omega (arith, h.count, ap length e) }

pub fit-end : {G : Shape} {all : List Went} {i m : ℕ} {ws : List Went} → FitInv G all i ws → ws ≡ [] → m ≡ length all → m ≡ unfit G 0 all
fit-end {G} {all} {i} h e q = let k : i ≡ length all = omega (arith, h.count, ap length e) in q ∙ sym k ∙ sym (h.same ∙ ap (unfit G i) e ∙ unfit-none G i)

-- writing them
file-is : (G : Shape) (ws : List Went) → file_of G ws ≡ records_from G 0 ws
unfolding file_of
file-is G ws = refl

pub record FileInv (all : List ℕ) (G : Shape) (i : ℕ) (ws : List Went) (d₀ d : List ℕ) (p : ℕ) : Type 0 where
  pub writing : Writing 0 all (records_from G i ws) d₀ d p

pub file-begin : (G : Shape) (all : List Went) (i : ℕ) (d : List ℕ) (ws : List Went) → length (file_of G all) ≤ length d → i ≡ 0 → ws ≡ all → FileInv (file_of G all) G i ws d d 0
file-begin G all i d ws h q e =
    record { writing = writing-as (file-is G all ∙ ap (records_from G 0) (sym e) ∙ ap (λ (m : ℕ). records_from G m ws) (sym q)) (writing_start 0 (file_of G all) d (omega arith)) }

records-one : (G : Shape) (i : ℕ) (w : Went) (ws : List Went) → records_from G i (w ∷ ws) ≡ record_bytes G i w ++ records_from G (i + 1) ws
unfolding records_from
records-one G i w ws = ap (λ (j : ℕ). record_bytes G i w ++ records_from G j ws) (next i)

records-none : (G : Shape) (i : ℕ) → records_from G i [] ≡ []
unfolding records_from
records-none G i = refl

module _ {all : List ℕ} {G : Shape} {i x p : ℕ} {d₀ d : List ℕ} {w : Went} {ws us : List Went} (h : FileInv all G i ws d₀ d p) (e : ws ≡ w ∷ us) (q : x ≡ i) where
  file-now : Writing 0 all (record_bytes G x w ++ records_from G (x + 1) us) d₀ d p
  file-now = writing-as (ap (λ (m : ℕ). records_from G m ws) (sym q) ∙ ap (records_from G x) e ∙ records-one G x w us) h.writing

  pub file-room : p + size_of G ≤ length d
  file-room = omega (arith, writing-room file-now, length-append (record_bytes G x w) (records_from G (x + 1) us), record-length G x w [])

  pub file-on : {j : ℕ} → j ≡ i + 1 → {d' : List ℕ} {r : ℕ} → Wrote d p (record_bytes G x w) d' r → FileInv all G j us d₀ d' r
  file-on {j} t z = let m : x + 1 ≡ j = omega arith in record { writing = writing-as (ap (λ (y : ℕ). records_from G y us) m) (writing-put file-now z) }

pub file-end : {all : List ℕ} {G : Shape} {i p : ℕ} {d₀ d : List ℕ} {ws : List Went} → FileInv all G i ws d₀ d p → ws ≡ [] → Wrote d₀ 0 all d p
file-end {G = G} {i = i} h e = writing-end (writing-as (ap (records_from G i) e ∙ records-none G i) h.writing)

-- how many there are
wents-length : (F : Shape) (n : ℕ) (s : List ℕ) → size_of F * length (wents_from F n s) ≤ length s
unfolding wents_from
wents-length F zero s = omega arith
wents-length F (suc n) s = go (ltb (length s) (size_of F)) refl (wents-length F n (drop (size_of F) s))
  where
    go : (b : Bool) → ltb (length s) (size_of F) ≡ b → size_of F * length (wents_from F n (drop (size_of F) s)) ≤ length (drop (size_of F) s) → size_of F * length (cond b [] (went_in F s ∷ wents_from F n (drop (size_of F) s))) ≤ length s
    go true e z = omega arith
    go false e z = let k = ltb-false (length s) (size_of F) e in let q = mul-suc (size_of F) (length (wents_from F n (drop (size_of F) s))) in omega (arith, length-drop (size_of F) s)

pub count_small : (f g : Form) (s : List ℕ) (m z : ℕ) → m ≡ length (wents_in (form_shape f) s) → z ≡ size_of (form_shape g) → z * m ≤ 2 * length s
unfolding wents_in
count_small f g s m z e q = by f g (wents-length (form_shape f) (length s) s) q
  where
    by : (x y : Form) → size_of (form_shape x) * length (wents_from (form_shape f) (length s) s) ≤ length s → z ≡ size_of (form_shape y) → z * m ≤ 2 * length s
    by form.Ol form.Ol h r = let t : z ≡ 7 = r in rw t (omega arith)
    by form.Ol form.Om h r = let t : z ≡ 11 = r in rw t (omega arith)
    by form.Om form.Ol h r = let t : z ≡ 7 = r in rw t (omega arith)
    by form.Om form.Om h r = let t : z ≡ 11 = r in rw t (omega arith)

pub turn-for : (F G : Shape) (s : List ℕ) (x : Reply) (m room : ℕ) → x ≡ check_reply (read_file F s) → x ≡ Ok m → turn_by G room (says (wents_in F s)) ≡ turn F G s room
unfolding turn
turn-for F G s x m room h e = rw (fine-says F s m (sym e ∙ h)).0

module _ (G : Shape) (ws : List Went) (d : List ℕ) (m u : ℕ) (a : m ≡ length ws) (b : u ≡ unfit G 0 ws) where
  pub turn-unfit : u < m → (Err (Unfit u) ≡ turned_reply (turn_by G (length d) (says ws))) × (d ≡ turned_after (turn_by G (length d) (says ws)) d)
  turn-unfit h = rw (unfit-here G 0 ws (omega arith)) (ap (λ (n : ℕ). Err (Unfit n)) b, refl)

  module _ (h : m ≤ u) (z : ℕ) (c : z ≡ size_of G) where
    size_is : z * m ≡ size_of G * length ws
    size_is = ap (λ (y : ℕ). y * m) c ∙ ap (λ (y : ℕ). size_of G * y) a

    pub turn-short : length d < z * m → (Err (Short (z * m)) ≡ turned_reply (turn_by G (length d) (says ws))) × (d ≡ turned_after (turn_by G (length d) (says ws)) d)
    turn-short k = rw (unfit-nowhere G 0 ws (omega arith), lt-ltb (length d) (size_of G * length ws) (subst (λ (y : ℕ). length d < y) size_is k)) (ap (λ (n : ℕ). Err (Short n)) size_is, refl)

    pub turn-room : z * m ≤ length d → length (file_of G ws) ≤ length d
    turn-room k = subst (λ (y : ℕ). y ≤ length d) (size_is ∙ sym (file-length G ws)) k

    pub turn-done : z * m ≤ length d → (d' : List ℕ) (r : ℕ) → Wrote d 0 (file_of G ws) d' r → (Ok r ≡ turned_reply (turn_by G (length d) (says ws))) × (d' ≡ turned_after (turn_by G (length d) (says ws)) d)
    turn-done k d' r w =
        let q : r ≡ length (file_of G ws) = omega (arith, w.place) in
        rw (unfit-nowhere G 0 ws (omega arith), le-ltb (length d) (size_of G * length ws) (subst (λ (y : ℕ). y ≤ length d) size_is k)) (ap Ok q, front d (file_of G ws) d' r w)

-- ---- numbers and places

pub reply-number : (r : Reply) {x : Reply} → r ≡ x → reply_number x ≡ reply_number r
reply-number r e = ap reply_number (sym e)

pub reply-place : (r : Reply) {x : Reply} → r ≡ x → reply_place x ≡ reply_place r
reply-place r e = ap reply_place (sym e)
