-- Reading a file line by line: what is awaited, what stands above, what is given. Assumes nothing.
use Prim.Native.Nat.{ℕ, zero, suc, ◌+◌, ◌-◌, ◌/◌, ◌%◌, ◌≤◌, ◌<◌}
use mathlib.Core.Path.{◌≡◌, refl, sym, ap, ◌∙◌, subst}
use mathlib.Core.Bool.{Bool, true, false, cond, not, ◌&&◌, ◌||◌}
use mathlib.Core.List.{List, [], ◌∷◌, ◌++◌, append_assoc, append-nil}
use native.Mathlib.Omega.{arith}
use native.Mathlib.Numerals.{add-one}
use borrow.Author.Tests.{eq-eqb, ne_eqb, eqb-true, eqb-false, lt-ltb, le-ltb, ltb-true, ltb-false}
use lib.Dec.{eqb, leb, ltb}
use lib.ListN.{length, take, drop, replicate, length-append, length-take, length-drop}
use lib.Seq.{take_at, drop-drop, take-take}
use Rattle.lines.specs.Lf.{part, same, up_to, parts_of, cut_on, low_bytes}
use Rattle.lines.specs.Inner.Out.{Wrote, put_at}
use Rattle.lines.proofs.OutLaws.{Writing, writing_start, writing-as, writing-room, writing-put, writing-end}
use Rattle.lines.proofs.Tests.{no, or-false, and_left, and-false}
use Rattle.std.proofs.Math.Nat.{div-div-eq-div-mul}
use Rattle.lines.proofs.Counts.{part-short}
use Rattle.lines.proofs.LfLaws.{parts_at, parts-at-end, rest_of}
use Rattle.lines.proofs.Compare.{same-eq}
use Rattle.po.specs.declared.Line.{Line}
use Rattle.po.specs.Answers.{Strings, read_text, by_read, read_answer, strings_number, read_after}
use Rattle.po.specs.declared.StringsRefusal.{StringsRefusal}
use Rattle.po.specs.declared.StringsRefusal.TheVariants as strings
use Rattle.std.specs.declared.result.Result.TheVariants.{Ok, Err}
use Rattle.lines.specs.Ascii.{ascii}
use Rattle.po.specs.Found.{decoded, known, empty}
use Rattle.text.specs.Utf8Form.{utf8_of}
use Rattle.po.specs.Form.{id_word, str_word, type_line, escape, escaped, quoted, ref_line}
use Rattle.po.specs.Name.{is_file_name}
use Rattle.po.specs.Reader.{State, start, Read, bad, good, is_valid, colon, value_of, quoted_text, is_quoted_line, name_in, line_number, is_ref, is_id, awaited, read_on, read_go, read_of, packed, given}
use Rattle.po.specs.Inner.ReadWalk.{is_reference, follows, next_of, after_reading, state_at, same_id, met, gives_one, gives, At, is_good, read_verdict}
use Rattle.names.specs.Names.{read_number}
use Rattle.po.specs.declared.Unit.{Unit}
use Rattle.po.specs.Inner.Walk.{unit_of}
use Rattle.po.specs.Inner.Index.{Tells}
use Rattle.po.proofs.IndexLaws.{tells_none}
use Rattle.po.proofs.UnitLaws.{text-stop, text-on}
use Rattle.po.proofs.LineLaws.{empty-yes, empty-no, colon-le, name-at, line-at}

-- ---- one step

abbrev refd : State → List ℕ → State
refd s l = record { awaits = 5; name = name_in l; least = line_number l; ids = s.ids; strs = s.strs }

abbrev ided : State → List ℕ → State
ided s l = record { awaits = 6; name = s.name; least = s.least; ids = quoted_text id_word l ∷ s.ids; strs = s.strs }

abbrev stred : State → List ℕ → State
stred s l = record { awaits = 3; name = s.name; least = s.least; ids = s.ids; strs = quoted_text str_word l ∷ s.strs }

abbrev passed : State → State
passed s = record { awaits = suc s.awaits; name = s.name; least = s.least; ids = s.ids; strs = s.strs }

module _ (s : State) (l : List ℕ) where
  step_is : read_on s l ≡ cond (eqb s.awaits 4) (refd s l) (cond (eqb s.awaits 5) (ided s l) (cond (eqb s.awaits 6) (stred s l) (passed s)))
  unfolding read_on
  step_is = refl

  pub on-awaits : (read_on s l).awaits ≡ next_of s.awaits
  on-awaits = ap (λ (t : State). t.awaits) step_is ∙ go (eqb s.awaits 4) refl (eqb s.awaits 5) refl (eqb s.awaits 6) refl
    where
      go : (a : Bool) → eqb s.awaits 4 ≡ a → (b : Bool) → eqb s.awaits 5 ≡ b → (c : Bool) → eqb s.awaits 6 ≡ c →
          (cond a (refd s l) (cond b (ided s l) (cond c (stred s l) (passed s)))).awaits ≡ cond c 3 (suc s.awaits)
      go true e b f true g = let x = eqb-true s.awaits 4 e in let y = eqb-true s.awaits 6 g in absurd (omega arith)
      go true e b f false g = let x = eqb-true s.awaits 4 e in sym (ap suc x)
      go false e true f true g = let x = eqb-true s.awaits 5 f in let y = eqb-true s.awaits 6 g in absurd (omega arith)
      go false e true f false g = let x = eqb-true s.awaits 5 f in sym (ap suc x)
      go false e false f true g = refl
      go false e false f false g = refl

  pub on-ids : (read_on s l).ids ≡ cond (eqb s.awaits 5) (quoted_text id_word l ∷ s.ids) s.ids
  on-ids = ap (λ (t : State). t.ids) step_is ∙ go (eqb s.awaits 4) refl (eqb s.awaits 5) refl (eqb s.awaits 6)
    where
      go : (a : Bool) → eqb s.awaits 4 ≡ a → (b : Bool) → eqb s.awaits 5 ≡ b → (c : Bool) →
          (cond a (refd s l) (cond b (ided s l) (cond c (stred s l) (passed s)))).ids ≡ cond b (quoted_text id_word l ∷ s.ids) s.ids
      go true e true f c = let x = eqb-true s.awaits 4 e in let y = eqb-true s.awaits 5 f in absurd (omega arith)
      go true e false f c = refl
      go false e true f c = refl
      go false e false f true = refl
      go false e false f false = refl

  pub on-name : s.awaits ≡ 4 → (read_on s l).name ≡ name_in l
  on-name e = ap (λ (t : State). t.name) step_is ∙ ap (λ (a : Bool). (cond a (refd s l) (cond (eqb s.awaits 5) (ided s l) (cond (eqb s.awaits 6) (stred s l) (passed s)))).name) (eq-eqb s.awaits 4 e)

  pub on-least : s.awaits ≡ 4 → (read_on s l).least ≡ line_number l
  on-least e = ap (λ (t : State). t.least) step_is ∙ ap (λ (a : Bool). (cond a (refd s l) (cond (eqb s.awaits 5) (ided s l) (cond (eqb s.awaits 6) (stred s l) (passed s)))).least) (eq-eqb s.awaits 4 e)

  pub keep-name : (s.awaits ≡ 4 → ⊥) → (read_on s l).name ≡ s.name
  keep-name n = ap (λ (t : State). t.name) step_is ∙ go (eqb s.awaits 4) (ne_eqb s.awaits 4 n) (eqb s.awaits 5) (eqb s.awaits 6)
    where
      go : (a : Bool) → a ≡ false → (b c : Bool) → (cond a (refd s l) (cond b (ided s l) (cond c (stred s l) (passed s)))).name ≡ s.name
      go true z b c = no (sym z)
      go false z true c = refl
      go false z false true = refl
      go false z false false = refl

  pub keep-least : (s.awaits ≡ 4 → ⊥) → (read_on s l).least ≡ s.least
  keep-least n = ap (λ (t : State). t.least) step_is ∙ go (eqb s.awaits 4) (ne_eqb s.awaits 4 n) (eqb s.awaits 5) (eqb s.awaits 6)
    where
      go : (a : Bool) → a ≡ false → (b c : Bool) → (cond a (refd s l) (cond b (ided s l) (cond c (stred s l) (passed s)))).least ≡ s.least
      go true z b c = no (sym z)
      go false z true c = refl
      go false z false true = refl
      go false z false false = refl

-- ---- what stands above

or_assoc : (a b c : Bool) → (a || b) || c ≡ a || (b || c)
or_assoc true b c = refl
or_assoc false b c = refl

or_swap : (a b : Bool) → a || b ≡ b || a
or_swap true true = refl
or_swap true false = refl
or_swap false true = refl
or_swap false false = refl

known_step : (s : State) (l x : List ℕ) → known (read_on s l).ids x ≡ known s.ids x || same_id s.awaits l x
unfolding known
known_step s l x = ap (λ (is : List (List ℕ)). known is x) (on-ids s l) ∙ go (eqb s.awaits 5)
  where
    go : (b : Bool) → known (cond b (quoted_text id_word l ∷ s.ids) s.ids) x ≡ known s.ids x || (b && same (quoted_text id_word l) x)
    go true = or_swap (same (quoted_text id_word l) x) (known s.ids x)
    go false = sym (or-false (known s.ids x))

met-after : (ls : List (List ℕ)) (s : State) (x : List ℕ) → known (after_reading ls s).ids x ≡ known s.ids x || met s.awaits ls x
unfolding after_reading met
met-after [] s x = sym (or-false (known s.ids x))
met-after (l ∷ ls) s x =
    met-after ls (read_on s l) x
    ∙ ap (λ (b : Bool). b || met (read_on s l).awaits ls x) (known_step s l x)
    ∙ ap (λ (w : ℕ). (known s.ids x || same_id s.awaits l x) || met w ls x) (on-awaits s l)
    ∙ or_assoc (known s.ids x) (same_id s.awaits l x) (met (next_of s.awaits) ls x)

-- the msgids above, as a search for one
pub met-known : (file : List ℕ) (k : ℕ) (x : List ℕ) → met 0 (take k (parts_of 10 file)) x ≡ known (state_at file k).ids x
unfolding state_at known
met-known file k x = sym (met-after (take k (parts_of 10 file)) start x)

pub same-id-yes : (w : ℕ) (l x : List ℕ) (b : Bool) → w ≡ 5 → b ≡ same (quoted_text id_word l) x → b ≡ same_id w l x
same-id-yes w l x b e q = q ∙ sym (ap (λ (c : Bool). c && same (quoted_text id_word l) x) (eq-eqb w 5 e))

pub same-id-no : (w : ℕ) (l x : List ℕ) → (w ≡ 5 → ⊥) → false ≡ same_id w l x
same-id-no w l x n = sym (ap (λ (c : Bool). c && same (quoted_text id_word l) x) (ne_eqb w 5 n))

pub met-none : (w n : ℕ) (ls : List (List ℕ)) (x : List ℕ) → n ≡ 0 → met w (take n ls) x ≡ false
unfolding met
met-none w n ls x e = rw e refl

module _ (file : List ℕ) (i e : ℕ) (h : i ≤ length file) (q : e ≡ i + up_to 10 (drop i file)) (k j : ℕ) (less : j < k) (w : ℕ) (x : List ℕ) (b : Bool) (t : b ≡ same_id w (part i e file) x) where
  -- one line, and those after it
  pub met-first : e < length file → met w (take (k - j) (parts_of 10 (drop i file))) x ≡ b || met (next_of w) (take (k - (j + 1)) (parts_of 10 (drop (e + 1) file))) x
  unfolding met
  met-first l =
      let p : k - j ≡ suc (k - (j + 1)) = omega arith in
      rw (t, p) (ap (λ (ps : List (List ℕ)). met w (take (suc (k - (j + 1))) ps) x) (parts_at 10 file i e h q l))

  pub met-last : length file ≤ e → met w (take (k - j) (parts_of 10 (drop i file))) x ≡ b
  unfolding met
  met-last l =
      let p : k - j ≡ suc (k - (j + 1)) = omega arith in
      rw (t, p) (ap (λ (ps : List (List ℕ)). met w (take (suc (k - (j + 1))) ps) x) (parts-at-end 10 file i e h q l) ∙ ap (λ (c : Bool). same_id w (part i e file) x || c) (none (k - (j + 1))) ∙ or-false (same_id w (part i e file) x))
    where
      none : (n : ℕ) → met (next_of w) (take n []) x ≡ false
      none zero = refl
      none (suc n) = refl

  pub met-yes : b ≡ true → true ≡ met w (take (k - j) (parts_of 10 (drop i file))) x
  met-yes y = go (ltb e (length file)) refl
    where
      go : (c : Bool) → ltb e (length file) ≡ c → true ≡ met w (take (k - j) (parts_of 10 (drop i file))) x
      go true z = sym (met-first (ltb-true e (length file) z) ∙ ap (λ (a : Bool). a || met (next_of w) (take (k - (j + 1)) (parts_of 10 (drop (e + 1) file))) x) y)
      go false z = sym (met-last (ltb-false e (length file) z) ∙ y)

-- ---- the state at a line

after-append : (xs ys : List (List ℕ)) (s : State) → after_reading (xs ++ ys) s ≡ after_reading ys (after_reading xs s)
unfolding after_reading
after-append [] ys s = refl
after-append (x ∷ xs) ys s = after-append xs ys (read_on s x)

module _ {file : List ℕ} {r : Line} (v : At file r) where
  above : take r.number (parts_of 10 file) ≡ v.done
  above = ap (take r.number) v.split ∙ take_at v.done (parts_of 10 (drop r.at file)) r.number v.size

  pub at-state : state_at file r.number ≡ after_reading v.done start
  unfolding state_at
  at-state = ap (λ (ls : List (List ℕ)). after_reading ls start) above

  module _ (more : r.end < length file) where
    split-on : parts_of 10 file ≡ (v.done ++ part r.at r.end file ∷ []) ++ parts_of 10 (drop (r.end + 1) file)
    split-on =
        v.split
        ∙ ap (λ (ps : List (List ℕ)). v.done ++ ps) (parts_at 10 file r.at r.end v.inside v.ends more)
        ∙ sym (append_assoc v.done (part r.at r.end file ∷ []) (parts_of 10 (drop (r.end + 1) file)))

    size-on : length (v.done ++ part r.at r.end file ∷ []) ≡ r.number + 1
    size-on = let s = v.size in omega (arith, length-append v.done (part r.at r.end file ∷ []))

    above_on : take (r.number + 1) (parts_of 10 file) ≡ v.done ++ part r.at r.end file ∷ []
    above_on = ap (take (r.number + 1)) split-on ∙ take_at (v.done ++ part r.at r.end file ∷ []) (parts_of 10 (drop (r.end + 1) file)) (r.number + 1) size-on

    pub state-on : state_at file (r.number + 1) ≡ read_on (state_at file r.number) (part r.at r.end file)
    unfolding state_at after_reading
    state-on =
        ap (λ (ls : List (List ℕ)). after_reading ls start) above_on
        ∙ after-append v.done (part r.at r.end file ∷ []) start
        ∙ ap (λ (s : State). read_on s (part r.at r.end file)) (sym at-state)

-- the first line
pub at_first : (file : List ℕ) (e : ℕ) → e ≡ 0 + up_to 10 (drop 0 file) → At file (record { number = 0; at = 0; end = e; awaits = 0; from = 0; to = 0; least = 1 })
unfolding state_at after_reading
at_first file e q = record {
  inside = omega arith;
  ends = q;
  few = omega arith;
  low = omega arith;
  awaits = refl;
  name = refl;
  least = refl;
  done = [];
  size = refl;
  split = refl;
}

part_in : (file : List ℕ) (a e c : ℕ) → c ≤ e - a → take (c - 3) (drop 3 (part a e file)) ≡ part (a + 3) (a + c) file
part_in file a e c h =
    let p : a + c - (a + 3) ≡ c - 3 = omega arith in
    go (c - 3) (drop 3 (drop a file)) (drop-drop 3 a file) p
  where
    front : (n k : ℕ) (l : List ℕ) → n ≤ k - 3 → take n (drop 3 (take k l)) ≡ take n (drop 3 l)
    front zero k l m = refl
    front (suc n) zero l m = absurd (omega arith)
    front (suc n) (suc zero) l m = absurd (omega arith)
    front (suc n) (suc (suc zero)) l m = absurd (omega arith)
    front (suc n) (suc (suc (suc k))) [] m = refl
    front (suc n) (suc (suc (suc k))) (x ∷ []) m = refl
    front (suc n) (suc (suc (suc k))) (x ∷ y ∷ []) m = refl
    front (suc n) (suc (suc (suc k))) (x ∷ y ∷ z ∷ l) m = take-take (suc n) k l (omega arith)

    go : (n : ℕ) (d : List ℕ) → drop 3 (drop a file) ≡ drop (a + 3) file → a + c - (a + 3) ≡ n → take (c - 3) (drop 3 (part a e file)) ≡ part (a + 3) (a + c) file
    go n d f p =
        let b : c - 3 ≤ e - a - 3 = omega arith in
        let w : c - 3 ≡ a + c - (a + 3) = omega arith in
        front (c - 3) (e - a) (drop a file) b ∙ ap (take (c - 3)) f ∙ ap (λ (m : ℕ). take m (drop (a + 3) file)) w

pub next_low : (a : ℕ) → a ≤ 6 → next_of a ≤ 6
next_low a h = go (eqb a 6) refl
  where
    go : (b : Bool) → eqb a 6 ≡ b → cond b 3 (suc a) ≤ 6
    go true z = omega arith
    go false z = let n = eqb-false a 6 z in omega arith

-- the line after another
module _ {file : List ℕ} {r : Line} (v : At file r) (more : r.end < length file) (e w : ℕ) (q : e ≡ r.end + 1 + up_to 10 (drop (r.end + 1) file)) (u : w ≡ next_of r.awaits) where
  awaits-on : w ≡ (state_at file (r.number + 1)).awaits
  awaits-on = u ∙ ap next_of v.awaits ∙ sym (on-awaits (state_at file r.number) (part r.at r.end file)) ∙ ap (λ (s : State). s.awaits) (sym (state-on v more))

  small-on : w ≤ 6
  small-on = let k = next_low r.awaits v.low in omega arith

  few_on : r.number + 1 ≤ r.end + 1
  few_on = let k = v.few in let z = v.ends in omega arith

  pub at_ref : r.awaits ≡ 4 → (l : List ℕ) → l ≡ part r.at r.end file → (c : ℕ) → c ≡ colon l (length l) → (d : List ℕ) → d ≡ part (c + 1) (length l) l → (n : ℕ) → n ≡ value_of (read_number d) →
      At file (record { number = r.number + 1; at = r.end + 1; end = e; awaits = w; from = r.at + 3; to = r.at + c; least = n })
  at_ref z l is-l c is_c d is-d n is-n =
      let s : State = state_at file r.number in
      let x : List ℕ = part r.at r.end file in
      let h : c ≤ r.end - r.at = let t = ap length is-l in omega (arith, colon-le l (length l), part-short file r.at r.end) in
      let f : part 3 c x ≡ name_in x = ap (λ (y : List ℕ). part 3 c y) (sym is-l) ∙ name-at l c is_c ∙ ap name_in is-l in
      let g : n ≡ line_number x = line-at l c is_c n (is-n ∙ ap (λ (y : List ℕ). value_of (read_number y)) is-d) ∙ ap line_number is-l in
      record {
        inside = omega arith;
        ends = q;
        few = few_on;
        low = small-on;
        awaits = awaits-on;
        name = sym (part_in file r.at r.end c h) ∙ f ∙ sym (on-name s x (sym v.awaits ∙ z)) ∙ ap (λ (y : State). y.name) (sym (state-on v more));
        least = g ∙ sym (on-least s x (sym v.awaits ∙ z)) ∙ ap (λ (y : State). y.least) (sym (state-on v more));
        done = v.done ++ x ∷ [];
        size = size-on v more;
        split = split-on v more;
      }

  pub at_other : (r.awaits ≡ 4 → ⊥) → At file (record { number = r.number + 1; at = r.end + 1; end = e; awaits = w; from = r.from; to = r.to; least = r.least })
  at_other z =
      let s : State = state_at file r.number in
      let l : List ℕ = part r.at r.end file in
      record {
        inside = omega arith;
        ends = q;
        few = few_on;
        low = small-on;
        awaits = awaits-on;
        name = v.name ∙ sym (keep-name s l (λ x. z (v.awaits ∙ x))) ∙ ap (λ (x : State). x.name) (sym (state-on v more));
        least = v.least ∙ sym (keep-least s l (λ x. z (v.awaits ∙ x))) ∙ ap (λ (x : State). x.least) (sym (state-on v more));
        done = v.done ++ l ∷ [];
        size = size-on v more;
        split = split-on v more;
      }

-- ---- a line that is awaited

module _ (s : State) (l : List ℕ) where
  pub ref-awaited : (name : List ℕ) (least : ℕ) → name ≡ s.name → least ≡ s.least → is_reference l && follows name least l ≡ is_ref s l
  unfolding is_reference is_ref
  ref-awaited name least e f = rw (e, f) (assoc (same l (ref_line (name_in l) (line_number l))) (is_file_name (name_in l)) ((empty s.name || same s.name (name_in l)) && leb s.least (line_number l)))
    where
      assoc : (a b c : Bool) → (a && b) && c ≡ a && (b && c)
      assoc true b c = refl
      assoc false b c = refl

  pub await-0 : s.awaits ≡ 0 → same l (ascii "msgid \"\"") ≡ awaited s l
  unfolding awaited escaped
  await-0 e = rw e refl

  pub await-1 : s.awaits ≡ 1 → same l (ascii "msgstr \"\"") ≡ awaited s l
  unfolding awaited escaped
  await-1 e = rw e refl

  pub await-2 : s.awaits ≡ 2 → same l type_line ≡ awaited s l
  unfolding awaited
  await-2 e = rw e refl

  pub await-3 : s.awaits ≡ 3 → empty l ≡ awaited s l
  unfolding awaited
  await-3 e = rw e refl

  pub await-4 : s.awaits ≡ 4 → is_ref s l ≡ awaited s l
  unfolding awaited
  await-4 e = rw e refl

  pub await-5 : s.awaits ≡ 5 → is_id s l ≡ awaited s l
  unfolding awaited
  await-5 e = rw e refl

  pub await-6 : s.awaits ≡ 6 → is_quoted_line str_word l ≡ awaited s l
  unfolding awaited
  await-6 e = rw e refl

-- ---- what is given

escape-some : (b : ℕ) → 1 ≤ length (escape b)
escape-some b = go (eqb b 10) (eqb b 9) (eqb b 34) (eqb b 92)
  where
    go : (p q r s : Bool) → 1 ≤ length (cond p (92 ∷ 110 ∷ []) (cond q (92 ∷ 116 ∷ []) (cond r (92 ∷ 34 ∷ []) (cond s (92 ∷ 92 ∷ []) (b ∷ [])))))
    go true q r s = omega arith
    go false true r s = omega arith
    go false false true s = omega arith
    go false false false true = omega arith
    go false false false false = omega arith

escaped-long : (t : List ℕ) → length t ≤ length (escaped t)
unfolding escaped
escaped-long [] = omega arith
escaped-long (b ∷ t) = let k = escaped-long t in omega (arith, length-append (escape b) (escaped t), escape-some b)

pub low-length : (k n : ℕ) → length (low_bytes k n) ≡ k
unfolding low_bytes
low-length zero n = refl
low-length (suc k) n = ap suc (low-length k (n / 256))

-- the eight bytes of a number
pub low_eight : (n : ℕ) → n % 256 ∷ n / 256 % 256 ∷ n / 65536 % 256 ∷ n / 16777216 % 256 ∷ n / 4294967296 % 256 ∷ n / 1099511627776 % 256 ∷ n / 281474976710656 % 256 ∷ n / 72057594037927936 % 256 ∷ [] ≡ low_bytes 8 n
unfolding low_bytes
low_eight n = rw (div-div-eq-div-mul n 256 256, div-div-eq-div-mul n 65536 256, div-div-eq-div-mul n 16777216 256, div-div-eq-div-mul n 4294967296 256, div-div-eq-div-mul n 1099511627776 256, div-div-eq-div-mul n 281474976710656 256)

pub packed-length : (t : List ℕ) → length (packed t) ≡ 8 + length t
packed-length t = length-append (low_bytes 8 (length t)) t ∙ ap (λ (n : ℕ). n + length t) (low-length 8 (length t))

-- a text is given in no more bytes than its line has with its LF
quoted-room : (w l : List ℕ) → 7 ≤ length w → is_quoted_line w l ≡ true → length (packed (quoted_text w l)) ≤ length l + 1
unfolding is_quoted_line
quoted-room w l h e =
    let t : List ℕ = quoted_text w l in
    let q = ap length (same-eq l (quoted w t) (and_left (same l (quoted w t)) (is_valid (utf8_of l)) e)) in
    omega (arith, packed-length t, escaped-long t, length-append (w ++ escaped t) (34 ∷ []), length-append w (escaped t))

id-is : (s : State) (l : List ℕ) → is_quoted_line id_word l && (not (empty (quoted_text id_word l)) && not (known s.ids (quoted_text id_word l))) ≡ is_id s l
unfolding is_id
id-is s l = refl

pub line-room : (s : State) (l : List ℕ) → awaited s l ≡ true → length (gives_one s.awaits l) ≤ length l + 1
line-room s l e = go (eqb s.awaits 5) refl (eqb s.awaits 6) refl
  where
    five : is_id s l ≡ true → length (packed (quoted_text id_word l)) ≤ length l + 1
    five f = quoted-room id_word l (omega arith) (and_left (is_quoted_line id_word l) (not (empty (quoted_text id_word l)) && not (known s.ids (quoted_text id_word l))) (id-is s l ∙ f))

    go : (a : Bool) → eqb s.awaits 5 ≡ a → (b : Bool) → eqb s.awaits 6 ≡ b → length (cond a (packed (quoted_text id_word l)) (cond b (packed (quoted_text str_word l)) [])) ≤ length l + 1
    go true f b g = five (await-5 s l (eqb-true s.awaits 5 f) ∙ e)
    go false f true g = quoted-room str_word l (omega arith) (await-6 s l (eqb-true s.awaits 6 g) ∙ e)
    go false f false g = omega arith

-- what a line gives, by what is awaited
module _ (w : ℕ) (l m : List ℕ) where
  pub gives-5 : w ≡ 5 → m ≡ part 7 (length l) l → packed (decoded m 34) ≡ gives_one w l
  gives-5 e q = ap (λ (x : List ℕ). packed (decoded x 34)) (q ∙ rest_of l 7) ∙ sym (ap (λ (k : ℕ). gives_one k l) e)

  pub gives-6 : w ≡ 6 → m ≡ part 8 (length l) l → packed (decoded m 34) ≡ gives_one w l
  gives-6 e q = ap (λ (x : List ℕ). packed (decoded x 34)) (q ∙ rest_of l 8) ∙ sym (ap (λ (k : ℕ). gives_one k l) e)

pub gives_none : (w : ℕ) (l : List ℕ) → (w ≡ 5 → ⊥) → (w ≡ 6 → ⊥) → gives_one w l ≡ []
gives_none w l n m = ap (λ (a : Bool). cond a (packed (quoted_text id_word l)) (cond (eqb w 6) (packed (quoted_text str_word l)) [])) (ne_eqb w 5 n) ∙ ap (λ (a : Bool). cond a (packed (quoted_text str_word l)) []) (ne_eqb w 6 m)

-- a msgid, by its tests
module _ (s : State) (l : List ℕ) where
  pub id-no-form : is_quoted_line id_word l ≡ false → false ≡ is_id s l
  id-no-form f = sym (ap (λ (b : Bool). b && (not (empty (quoted_text id_word l)) && not (known s.ids (quoted_text id_word l)))) f) ∙ id-is s l

  module _ (f : is_quoted_line id_word l ≡ true) (m : List ℕ) (q : m ≡ part 7 (length l) l) (u : Unit) (e : u ≡ unit_of (drop 0 m) 34) where
    id-text : decoded m 34 ≡ quoted_text id_word l
    id-text = ap (λ (x : List ℕ). decoded x 34) (q ∙ rest_of l 7)

    id-so : not (empty (decoded m 34)) && not (known s.ids (decoded m 34)) ≡ is_id s l
    id-so = ap (λ (x : List ℕ). not (empty x) && not (known s.ids x)) id-text ∙ sym (ap (λ (b : Bool). b && (not (empty (quoted_text id_word l)) && not (known s.ids (quoted_text id_word l)))) f) ∙ id-is s l

    pub id-empty : u.size ≡ 0 → false ≡ is_id s l
    id-empty z = ap (λ (x : List ℕ). not (empty x) && not (known s.ids x)) (sym (text-stop m 34 0 u e z)) ∙ id-so

    pub id-by : (u.size ≡ 0 → ⊥) → (b : Bool) → b ≡ known s.ids (decoded m 34) → not b ≡ is_id s l
    id-by n b k = ap not k ∙ sym (ap (λ (x : List ℕ). not (empty x) && not (known s.ids (decoded m 34))) (text-on m 34 0 u e n)) ∙ id-so

-- a number in bytes
module _ (k m : ℕ) (h : k < 8) where
  pub low-on : low_bytes (8 - k) m ≡ (m % 256 ∷ []) ++ low_bytes (8 - (k + 1)) (m / 256)
  unfolding low_bytes
  low-on = let q : 8 - k ≡ suc (8 - (k + 1)) = omega arith in ap (λ (n : ℕ). low_bytes n m) q

pub low-none : (k m : ℕ) → 8 ≤ k → low_bytes (8 - k) m ≡ []
unfolding low_bytes
low-none k m h = let q : 8 - k ≡ 0 = omega arith in ap (λ (n : ℕ). low_bytes n m) q

gives-snoc : (xs : List (List ℕ)) (s : State) (l : List ℕ) → gives s.awaits (xs ++ l ∷ []) ≡ gives s.awaits xs ++ gives_one (after_reading xs s).awaits l
unfolding gives after_reading
gives-snoc [] s l = append-nil (gives_one s.awaits l)
gives-snoc (x ∷ xs) s l =
    ap (λ (w : ℕ). gives_one s.awaits x ++ gives w (xs ++ l ∷ [])) (sym (on-awaits s x))
    ∙ ap (λ (m : List ℕ). gives_one s.awaits x ++ m) (gives-snoc xs (read_on s x) l)
    ∙ sym (append_assoc (gives_one s.awaits x) (gives (read_on s x).awaits xs) (gives_one (after_reading xs (read_on s x)).awaits l))
    ∙ ap (λ (w : ℕ). (gives_one s.awaits x ++ gives w xs) ++ gives_one (after_reading xs (read_on s x)).awaits l) (on-awaits s x)

pub gives_cons : (w : ℕ) (l : List ℕ) (ls : List (List ℕ)) → gives w (l ∷ ls) ≡ gives_one w l ++ gives (next_of w) ls
unfolding gives
gives_cons w l ls = refl

pub gives-one : (w : ℕ) (l : List ℕ) → gives w (l ∷ []) ≡ gives_one w l
unfolding gives
gives-one w l = append-nil (gives_one w l)

-- what is given so far: at a msgstr its msgid has no translation yet
half : List (List ℕ) → List (List ℕ) → List ℕ
half [] strs = []
half (i ∷ ids) strs = given ids strs [] ++ packed i

given-on : (ids strs : List (List ℕ)) (out : List ℕ) → given ids strs out ≡ given ids strs [] ++ out
unfolding given
given-on [] strs out = refl
given-on (i ∷ ids) [] out = refl
given-on (i ∷ ids) (s ∷ strs) out =
    given-on ids strs (packed i ++ packed s ++ out)
    ∙ ap (λ (m : List ℕ). given ids strs [] ++ m) (sym (append-nil-in (packed i) (packed s) out))
    ∙ sym (append_assoc (given ids strs []) (packed i ++ packed s ++ []) out)
    ∙ ap (λ (m : List ℕ). m ++ out) (sym (given-on ids strs (packed i ++ packed s ++ [])))
  where
    append-nil-in : (a b c : List ℕ) → (a ++ b ++ []) ++ c ≡ a ++ b ++ c
    append-nil-in a b c = ap (λ (m : List ℕ). m ++ c) (append-nil (a ++ b))

-- so far
abbrev sofar : State → List ℕ
sofar s = cond (eqb s.awaits 6) (half s.ids s.strs) (given s.ids s.strs [])

half-whole : (ids strs : List (List ℕ)) (y : List ℕ) → 0 < length ids → given ids (y ∷ strs) [] ≡ half ids strs ++ packed y
unfolding given half
half-whole [] strs y h = absurd (omega arith)
half-whole (i ∷ ids) strs y h =
    given-on ids strs (packed i ++ packed y ++ [])
    ∙ ap (λ (m : List ℕ). given ids strs [] ++ m) (append-nil (packed i ++ packed y))
    ∙ sym (append_assoc (given ids strs []) (packed i) (packed y))

step_gives : (s : State) (l : List ℕ) → (s.awaits ≡ 6 → 0 < length s.ids) → sofar (read_on s l) ≡ sofar s ++ gives_one s.awaits l
unfolding half
step_gives s l h = ap (λ (t : State). sofar t) (step_is s l) ∙ go (eqb s.awaits 4) refl (eqb s.awaits 5) refl (eqb s.awaits 6) refl
  where
    go : (a : Bool) → eqb s.awaits 4 ≡ a → (b : Bool) → eqb s.awaits 5 ≡ b → (c : Bool) → eqb s.awaits 6 ≡ c →
        sofar (cond a (refd s l) (cond b (ided s l) (cond c (stred s l) (passed s)))) ≡
        cond c (half s.ids s.strs) (given s.ids s.strs []) ++ cond b (packed (quoted_text id_word l)) (cond c (packed (quoted_text str_word l)) [])
    go true e true f c g = let x = eqb-true s.awaits 4 e in let y = eqb-true s.awaits 5 f in absurd (omega arith)
    go true e false f true g = let x = eqb-true s.awaits 4 e in let y = eqb-true s.awaits 6 g in absurd (omega arith)
    go true e false f false g = sym (append-nil (given s.ids s.strs []))
    go false e true f true g = let x = eqb-true s.awaits 5 f in let y = eqb-true s.awaits 6 g in absurd (omega arith)
    go false e true f false g = refl
    go false e false f true g = half-whole s.ids s.strs (quoted_text str_word l) (h (eqb-true s.awaits 6 g))
    go false e false f false g =
        let n = eqb-false s.awaits 5 f in
        ap (λ (b : Bool). cond b (half s.ids s.strs) (given s.ids s.strs [])) (ne_eqb (suc s.awaits) 6 (omega arith)) ∙ sym (append-nil (given s.ids s.strs []))

-- at a msgstr there is a msgid
half-on : (s : State) (l : List ℕ) → (read_on s l).awaits ≡ 6 → 0 < length (read_on s l).ids
half-on s l e = go (eqb s.awaits 6) refl (sym (on-awaits s l) ∙ e)
  where
    go : (c : Bool) → eqb s.awaits 6 ≡ c → cond c 3 (suc s.awaits) ≡ 6 → 0 < length (read_on s l).ids
    go true g f = absurd (omega arith)
    go false g f =
        let w : s.awaits ≡ 5 = omega arith in
        let q : (read_on s l).ids ≡ quoted_text id_word l ∷ s.ids = on-ids s l ∙ ap (λ (b : Bool). cond b (quoted_text id_word l ∷ s.ids) s.ids) (eq-eqb s.awaits 5 w) in
        let z = ap length q in
        omega arith

gives-good : (ls : List (List ℕ)) (n : ℕ) (s : State) → (s.awaits ≡ 6 → 0 < length s.ids) → is_good (read_go ls n s) ≡ true → read_text (read_go ls n s) ≡ sofar s ++ gives s.awaits ls
unfolding read_go gives
gives-good [] n s h e = no e
gives-good (z ∷ []) n s h e = go (eqb s.awaits 3 && empty z) refl e
  where
    go : (b : Bool) → eqb s.awaits 3 && empty z ≡ b → is_good (cond b (good s.ids s.strs) (bad n)) ≡ true → read_text (cond b (good s.ids s.strs) (bad n)) ≡ sofar s ++ (gives_one s.awaits z ++ [])
    go false f e = no e
    go true f e = let w : s.awaits ≡ 3 = eqb-true s.awaits 3 (and_left (eqb s.awaits 3) (empty z) f) in rw w (sym (append-nil (given s.ids s.strs [])))
gives-good (l ∷ m ∷ ls) n s h e = go (awaited s l) e (gives-good (m ∷ ls) (suc n) (read_on s l) (half-on s l))
  where
    go : (b : Bool) → is_good (cond b (read_go (m ∷ ls) (suc n) (read_on s l)) (bad n)) ≡ true →
        (is_good (read_go (m ∷ ls) (suc n) (read_on s l)) ≡ true → read_text (read_go (m ∷ ls) (suc n) (read_on s l)) ≡ sofar (read_on s l) ++ gives (read_on s l).awaits (m ∷ ls)) →
        read_text (cond b (read_go (m ∷ ls) (suc n) (read_on s l)) (bad n)) ≡ sofar s ++ (gives_one s.awaits l ++ gives (next_of s.awaits) (m ∷ ls))
    go false e ih = no e
    go true e ih =
        ih e
        ∙ ap (λ (x : List ℕ). x ++ gives (read_on s l).awaits (m ∷ ls)) (step_gives s l h)
        ∙ ap (λ (w : ℕ). (sofar s ++ gives_one s.awaits l) ++ gives w (m ∷ ls)) (on-awaits s l)
        ∙ append_assoc (sofar s) (gives_one s.awaits l) (gives (next_of s.awaits) (m ∷ ls))

-- what a file gives, line by line
pub file-gives : (file : List ℕ) → is_good (read_of file) ≡ true → read_text (read_of file) ≡ gives 0 (parts_of 10 file)
unfolding read_of given
file-gives file h = gives-good (parts_of 10 file) 0 start (λ z. absurd (omega arith)) h

-- ---- the walk

parts-some : (b : ℕ) (l : List ℕ) → 0 < length (parts_of b l)
unfolding parts_of cut_on
parts-some b [] = omega arith
parts-some b (x ∷ l) = go (eqb x b) (parts_of b l)
  where
    go : (t : Bool) (ps : List (List ℕ)) → 0 < length (cut_on t x ps)
    go true ps = omega arith
    go false [] = omega arith
    go false (p ∷ ps) = omega arith

read_step : (l : List ℕ) (ps : List (List ℕ)) (n : ℕ) (s : State) → 0 < length ps → read_go (l ∷ ps) n s ≡ cond (awaited s l) (read_go ps (suc n) (read_on s l)) (bad n)
unfolding read_go
read_step l [] n s h = absurd (omega arith)
read_step l (m ∷ ps) n s h = refl

pub record CheckInv (file : List ℕ) (n : ℕ) (r : Line) : Type 0 where
  pub stands : At file r
  pub so_far : read_go (parts_of 10 (drop r.at file)) r.number (state_at file r.number) ≡ read_of file
  pub many : n ≡ length (gives 0 (take r.number (parts_of 10 file)))
  pub bound : n ≤ r.at

pub check-start : (file : List ℕ) (r : Line) → At file r → r.number ≡ 0 → r.at ≡ 0 → CheckInv file 0 r
unfolding read_of state_at after_reading gives
check-start file r v e f = record {
  stands = v;
  so_far = rw (e, f) refl;
  many = rw e refl;
  bound = omega arith;
}

module _ {file : List ℕ} {n : ℕ} {r : Line} (v : CheckInv file n r) where
  module _ (more : r.end < length file) where
    step_by : cond (awaited (state_at file r.number) (part r.at r.end file)) (read_go (parts_of 10 (drop (r.end + 1) file)) (suc r.number) (read_on (state_at file r.number) (part r.at r.end file))) (bad r.number) ≡ read_of file
    step_by =
        sym (read_step (part r.at r.end file) (parts_of 10 (drop (r.end + 1) file)) r.number (state_at file r.number) (parts-some 10 (drop (r.end + 1) file)))
        ∙ ap (λ (ps : List (List ℕ)). read_go ps r.number (state_at file r.number)) (sym (parts_at 10 file r.at r.end v.stands.inside v.stands.ends more))
        ∙ v.so_far

    pub check-bad : awaited (state_at file r.number) (part r.at r.end file) ≡ false → Err (strings.BadLine r.number) ≡ read_verdict (read_of file)
    check-bad e = ap (λ (b : Bool). read_verdict (cond b (read_go (parts_of 10 (drop (r.end + 1) file)) (suc r.number) (read_on (state_at file r.number) (part r.at r.end file))) (bad r.number))) (sym e) ∙ ap (λ (x : Read). read_verdict x) step_by

    module _ (good-line : awaited (state_at file r.number) (part r.at r.end file) ≡ true) (m : ℕ) (l : List ℕ) (is-l : l ≡ part r.at r.end file) (e : m ≡ length (gives_one r.awaits l)) where
      pub check-room : n + m ≤ r.end + 1
      check-room =
          let k : m ≡ length (gives_one (state_at file r.number).awaits (part r.at r.end file)) = e ∙ ap (λ (x : List ℕ). length (gives_one r.awaits x)) is-l ∙ ap (λ (w : ℕ). length (gives_one w (part r.at r.end file))) v.stands.awaits in
          let b = v.bound in
          let z = v.stands.ends in
          omega (arith, line-room (state_at file r.number) (part r.at r.end file) good-line, part-short file r.at r.end)

      pub check-on : (t : Line) → At file t → t.number ≡ r.number + 1 → t.at ≡ r.end + 1 → CheckInv file (n + m) t
      check-on t u p q = record {
        stands = u;
        so_far =
            ap (λ (x : ℕ). read_go (parts_of 10 (drop x file)) t.number (state_at file t.number)) q
            ∙ ap (λ (x : ℕ). read_go (parts_of 10 (drop (r.end + 1) file)) x (state_at file x)) p
            ∙ ap (λ (s : State). read_go (parts_of 10 (drop (r.end + 1) file)) (r.number + 1) s) (state-on v.stands more)
            ∙ ap (λ (x : ℕ). read_go (parts_of 10 (drop (r.end + 1) file)) x (read_on (state_at file r.number) (part r.at r.end file))) (add-one r.number)
            ∙ ap (λ (b : Bool). cond b (read_go (parts_of 10 (drop (r.end + 1) file)) (suc r.number) (read_on (state_at file r.number) (part r.at r.end file))) (bad r.number)) (sym good-line)
            ∙ step_by;
        many =
            let d : List (List ℕ) = v.stands.done in
            let x : List ℕ = part r.at r.end file in
            let w : (after_reading d start).awaits ≡ r.awaits = ap (λ (s : State). s.awaits) (sym (at-state v.stands)) ∙ sym v.stands.awaits in
            let g : length (gives 0 (take t.number (parts_of 10 file))) ≡ length (gives 0 d ++ gives_one r.awaits l) =
            ap (λ (k : ℕ). length (gives 0 (take k (parts_of 10 file)))) p
            ∙ ap (λ (ls : List (List ℕ)). length (gives 0 ls)) (above_on v.stands more)
            ∙ ap length (gives-snoc d start x)
            ∙ ap (λ (k : ℕ). length (gives 0 d ++ gives_one k x)) w
            ∙ ap (λ (y : List ℕ). length (gives 0 d ++ gives_one r.awaits y)) (sym is-l) in
            let o : n ≡ length (gives 0 d) = v.many ∙ ap (λ (ls : List (List ℕ)). length (gives 0 ls)) (above v.stands) in
            omega (arith, length-append (gives 0 d) (gives_one r.awaits l));
        bound = let c = check-room in omega arith;
      }

  module _ (last : length file ≤ r.end) where
    ends_by : cond (eqb (state_at file r.number).awaits 3 && empty (part r.at r.end file)) (good (state_at file r.number).ids (state_at file r.number).strs) (bad r.number) ≡ read_of file
    unfolding read_go
    ends_by = ap (λ (ps : List (List ℕ)). read_go ps r.number (state_at file r.number)) (sym (parts-at-end 10 file r.at r.end v.stands.inside v.stands.ends last)) ∙ v.so_far

    pub end-awaits : (r.awaits ≡ 3 → ⊥) → Err (strings.BadLine r.number) ≡ read_verdict (read_of file)
    end-awaits z =
        ap (λ (b : Bool). read_verdict (cond (b && empty (part r.at r.end file)) (good (state_at file r.number).ids (state_at file r.number).strs) (bad r.number))) (sym (ne_eqb (state_at file r.number).awaits 3 (λ x. z (v.stands.awaits ∙ x))))
        ∙ ap (λ (x : Read). read_verdict x) ends_by

    rest-length : length (part r.at r.end file) ≡ length file - r.at
    rest-length = let z = v.stands.ends in let t = length-take (r.end - r.at) (drop r.at file) in let d = length-drop r.at file in omega arith

    pub end_rest : r.at < length file → Err (strings.BadLine r.number) ≡ read_verdict (read_of file)
    end_rest h =
        let k = rest-length in
        let x : List ℕ = part r.at r.end file in
        let some : length x ≡ 0 → ⊥ = λ z. omega arith in
        ap (λ (b : Bool). read_verdict (cond b (good (state_at file r.number).ids (state_at file r.number).strs) (bad r.number))) (sym (ap (λ (b : Bool). eqb (state_at file r.number).awaits 3 && b) (empty-no x some) ∙ and-false (eqb (state_at file r.number).awaits 3)))
        ∙ ap (λ (y : Read). read_verdict y) ends_by

    end_read : r.awaits ≡ 3 → length file ≤ r.at → good (state_at file r.number).ids (state_at file r.number).strs ≡ read_of file
    end_read e h =
        let k = rest-length in
        let x : List ℕ = part r.at r.end file in
        let none : length x ≡ 0 = omega arith in
        ap (λ (b : Bool). cond b (good (state_at file r.number).ids (state_at file r.number).strs) (bad r.number))
        (sym (ap (λ (b : Bool). b && empty x) (eq-eqb (state_at file r.number).awaits 3 (sym v.stands.awaits ∙ e)) ∙ empty-yes x none))
        ∙ ends_by

    pub end-good : r.awaits ≡ 3 → length file ≤ r.at → Ok n ≡ read_verdict (read_of file)
    end-good e h =
        let d : List (List ℕ) = v.stands.done in
        let x : List ℕ = part r.at r.end file in
        let rd = end_read e h in
        let w : (after_reading d start).awaits ≡ 3 = ap (λ (s : State). s.awaits) (sym (at-state v.stands)) ∙ sym v.stands.awaits ∙ e in
        let all : parts_of 10 file ≡ d ++ x ∷ [] = v.stands.split ∙ ap (λ (ps : List (List ℕ)). d ++ ps) (parts-at-end 10 file r.at r.end v.stands.inside v.stands.ends last) in
        let g : gives 0 (parts_of 10 file) ≡ gives 0 d =
        ap (gives 0) all ∙ gives-snoc d start x ∙ ap (λ (k : ℕ). gives 0 d ++ gives_one k x) w ∙ append-nil (gives 0 d) in
        let t : read_text (read_of file) ≡ gives 0 d = file-gives file (ap (λ (y : Read). is_good y) (sym rd)) ∙ g in
        let o : n ≡ length (gives 0 d) = v.many ∙ ap (λ (ls : List (List ℕ)). length (gives 0 ls)) (above v.stands) in
        ap Ok (o ∙ ap length (sym t) ∙ ap (λ (y : Read). length (read_text y)) (sym rd)) ∙ ap (λ (y : Read). read_verdict y) rd

-- ---- the answer

pub kept-by : (e : StringsRefusal) (text d : List ℕ) → d ≡ read_after (Err e) text d
kept-by (strings.BadLine n) text d = refl
kept-by (strings.Short n) text d = refl

length_of : Strings → ℕ
length_of (Ok n) = n
length_of (Err (strings.BadLine n)) = n
length_of (Err (strings.Short n)) = n

module _ (file : List ℕ) (room : ℕ) where
  done-is : (rd : Read) (n : ℕ) → Ok n ≡ read_verdict rd → (is_good rd ≡ true) × (n ≡ length (read_text rd))
  unfolding strings_number length_of
  done-is (bad m) n e = let z = ap strings_number e in absurd (omega arith)
  done-is (good ids strs) n e = (refl, ap length_of e)

  by-done : (rd : Read) (n : ℕ) → Ok n ≡ read_verdict rd → by_read rd room ≡ cond (ltb room n) (Err (strings.Short n)) (Ok n)
  unfolding strings_number length_of
  by-done (bad m) n e = let z = ap strings_number e in absurd (omega arith)
  by-done (good ids strs) n e = ap (λ (k : ℕ). cond (ltb room k) (Err (strings.Short k)) (Ok k)) (sym (ap length_of e))

  by-err : (rd : Read) (e : StringsRefusal) → Err e ≡ read_verdict rd → Err e ≡ by_read rd room
  unfolding strings_number
  by-err (bad m) e h = h
  by-err (good ids strs) (strings.BadLine n) h = let z = ap strings_number h in absurd (omega arith)
  by-err (good ids strs) (strings.Short n) h = let z = ap strings_number h in absurd (omega arith)

  pub answer-err : (e : StringsRefusal) → Err e ≡ read_verdict (read_of file) → Err e ≡ read_answer file room
  unfolding read_answer
  answer-err e h = by-err (read_of file) e h

  module _ (n : ℕ) (e : Ok n ≡ read_verdict (read_of file)) where
    pub answer-short : room < n → Err (strings.Short n) ≡ read_answer file room
    unfolding read_answer
    answer-short h = sym (by-done (read_of file) n e ∙ ap (λ (b : Bool). cond b (Err (strings.Short n)) (Ok n)) (lt-ltb room n h))

    pub answer-done : n ≤ room → Ok n ≡ read_answer file room
    unfolding read_answer
    answer-done h = sym (by-done (read_of file) n e ∙ ap (λ (b : Bool). cond b (Err (strings.Short n)) (Ok n)) (le-ltb room n h))

    pub text-is : gives 0 (parts_of 10 file) ≡ read_text (read_of file)
    text-is = sym (file-gives file (done-is (read_of file) n e).0)

    pub text-room : n ≤ room → length (gives 0 (parts_of 10 file)) ≤ room
    text-room h = let k = (done-is (read_of file) n e).1 in let z = ap length text-is in omega arith

pub strings-written : {d text d' xs : List ℕ} {r : ℕ} → xs ≡ text → Wrote d 0 xs d' r → d' ≡ text ++ drop (length text) d
unfolding put_at
strings-written {d} {text} {d'} {xs} {r} e w = let q : 0 + length xs ≡ length xs = omega arith in w.holds ∙ ap (λ (m : ℕ). xs ++ drop m d) q ∙ ap (λ (ys : List ℕ). ys ++ drop (length ys) d) e

-- ---- writing what is given

pub record GivenInv (file d₀ d : List ℕ) (o i w e : ℕ) : Type 0 where
  pub inside : i ≤ length file
  pub low : w ≤ 6
  pub ends : e ≡ i + up_to 10 (drop i file)
  pub writing : Writing 0 (gives 0 (parts_of 10 file)) (gives w (parts_of 10 (drop i file))) d₀ d o

pub given-start : (file d : List ℕ) (e : ℕ) → length (gives 0 (parts_of 10 file)) ≤ length d → e ≡ 0 + up_to 10 (drop 0 file) → GivenInv file d d 0 0 0 e
given-start file d e h q = record { inside = omega arith; low = omega arith; ends = q; writing = writing_start 0 (gives 0 (parts_of 10 file)) d (omega arith) }

module _ {file d₀ d : List ℕ} {o i w e : ℕ} (v : GivenInv file d₀ d o i w e) (l : List ℕ) (is-l : l ≡ part i e file) where
  module _ (more : e < length file) where
    pub given-next : Writing 0 (gives 0 (parts_of 10 file)) (gives_one w l ++ gives (next_of w) (parts_of 10 (drop (e + 1) file))) d₀ d o
    given-next =
        writing-as
        (ap (gives w) (parts_at 10 file i e v.inside v.ends more)
        ∙ gives_cons w (part i e file) (parts_of 10 (drop (e + 1) file))
        ∙ ap (λ (x : List ℕ). gives_one w x ++ gives (next_of w) (parts_of 10 (drop (e + 1) file))) (sym is-l))
        v.writing

    pub given-room : o + length (gives_one w l) ≤ length d
    given-room = omega (arith, writing-room given-next, length-append (gives_one w l) (gives (next_of w) (parts_of 10 (drop (e + 1) file))))

    pub given-step : (d' : List ℕ) (p u f : ℕ) → Wrote d o (gives_one w l) d' p → u ≡ next_of w → f ≡ e + 1 + up_to 10 (drop (e + 1) file) → GivenInv file d₀ d' p (e + 1) u f
    given-step d' p u f y z q = record {
      inside = omega arith;
      low = let k = next_low w v.low in omega arith;
      ends = q;
      writing = writing-as (ap (λ (x : ℕ). gives x (parts_of 10 (drop (e + 1) file))) (sym z)) (writing-put given-next y);
    }

  module _ (last : length file ≤ e) where
    given-last : Writing 0 (gives 0 (parts_of 10 file)) (gives_one w l ++ []) d₀ d o
    given-last =
        writing-as
        (ap (gives w) (parts-at-end 10 file i e v.inside v.ends last)
        ∙ gives-one w (part i e file)
        ∙ ap (λ (x : List ℕ). gives_one w x) (sym is-l)
        ∙ sym (append-nil (gives_one w l)))
        v.writing

    pub last-room : o + length (gives_one w l) ≤ length d
    last-room = omega (arith, writing-room given-last, length-append (gives_one w l) [])

    pub given-end : (d' : List ℕ) (p : ℕ) → Wrote d o (gives_one w l) d' p → Wrote d₀ 0 (gives 0 (parts_of 10 file)) d' p
    given-end d' p y = writing-end (writing-put given-last y)

-- ---- what the table tells of the msgids

-- before the first line
pub ids-none : (file : List ℕ) (n : ℕ) (own : List ℕ) (k : ℕ) → own ≡ replicate n 0 → k ≡ 0 → Tells file own (state_at file k).ids
unfolding state_at after_reading
ids-none file n own k e z = rw z (tells_none file n own e)

module _ {file own : List ℕ} (s : State) (l : List ℕ) where
  -- after a line that is no msgid
  pub ids-kept : (k : ℕ) → s.awaits ≡ k → eqb k 5 ≡ false → Tells file own s.ids → Tells file own (read_on s l).ids
  ids-kept k e n w = subst (λ (ids : List (List ℕ)). Tells file own ids) (sym (on-ids s l ∙ ap (λ (b : Bool). cond b (quoted_text id_word l ∷ s.ids) s.ids) (ap (λ (m : ℕ). eqb m 5) e ∙ n))) w

  -- after a msgid
  pub ids_more : (m : List ℕ) → m ≡ l → s.awaits ≡ 5 → Tells file own (quoted_text id_word m ∷ s.ids) → Tells file own (read_on s l).ids
  ids_more m q e w = subst (λ (ids : List (List ℕ)). Tells file own ids) (ap (λ (x : List ℕ). quoted_text id_word x ∷ s.ids) q ∙ sym (on-ids s l ∙ ap (λ (b : Bool). cond b (quoted_text id_word l ∷ s.ids) s.ids) (eq-eqb s.awaits 5 e))) w

  -- a msgid's text, as the code cuts it
  pub ids-text : (m : List ℕ) → m ≡ part 7 (length l) l → Tells file own (decoded m 34 ∷ s.ids) → Tells file own (quoted_text id_word l ∷ s.ids)
  ids-text m q w = subst (λ (x : List ℕ). Tells file own (decoded x 34 ∷ s.ids)) (q ∙ rest_of l 7) w

-- at the next line
pub ids-on : {file own : List ℕ} {r : Line} → At file r → r.end < length file → (n : ℕ) → n ≡ r.number + 1 → Tells file own (read_on (state_at file r.number) (part r.at r.end file)).ids → Tells file own (state_at file n).ids
ids-on {file} {own} v h n e w = subst (λ (s : State). Tells file own s.ids) (sym (ap (state_at file) e ∙ state-on v h)) w
