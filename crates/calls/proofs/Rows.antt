-- Laws of finding lines by the table of their ends, and of the walk that makes the notes. Assumes nothing.
use Prim.Native.Nat.{ℕ, zero, suc, ◌+◌, ◌-◌, ◌*◌, ◌/◌, ◌%◌, ◌≤◌, ◌<◌, min}
use mathlib.Core.Path.{◌≡◌, refl, sym, ap, subst, ◌∙◌}
use mathlib.Core.Bool.{Bool, true, false, cond}
use mathlib.Core.List.{List, [], ◌∷◌}
use native.Mathlib.Omega.{arith}
use borrow.Author.Tests.{eq-eqb, ne_eqb, ltb-true, ltb-false}
use lib.Dec.{eqb, ltb}
use lib.ListN.{length, take, drop, get_or, length-take, length-drop, drop_of_length-le, get_or-append}
use lib.Seq.{drop-cons}
use Rattle.lines.specs.Lf.{part, up_to, lines_of}
use Rattle.lines.proofs.LfLaws.{find-le, lines-at, lines_end}
use Rattle.parse.specs.Parse.{parse_of, text_of}
use Rattle.words.specs.Runs.{runs}
use Rattle.place.specs.Region.{is_header}
use Rattle.place.specs.Inner.Ends.{end_mark, end_marks}
use Rattle.place.proofs.Marks.{marks-length}
use Rattle.decls.specs.Inner.Seen.{mark_store, AtMost}
use Rattle.records.specs.Inner.Records.{Told}
use Rattle.records.proofs.Shown.{told-long}
use Rattle.decls.proofs.SeenLaws.{store_length}
use Rattle.calls.specs.Inner.Tables.{line_at}
use Rattle.calls.specs.Inner.Later.{read_runs, note_line, Spans}
use Rattle.calls.proofs.Notes.{runs-length, note-length, Tail, tail_none, tail-on, spans-none, spans_on}

-- ---- the line with k above it

-- where it begins, by the marks of lines that begin at i
begin : ℕ → List ℕ → ℕ → ℕ
begin i es zero = i
begin i es (suc k) = get_or es k 0 / 2 + 1

mark-end : (e : ℕ) (l : List ℕ) → end_mark e l / 2 ≡ e
mark-end e l = go (is_header l)
  where
    go : (b : Bool) → (2 * e + cond b 1 0) / 2 ≡ e
    go true = omega arith
    go false = omega arith

mark-head : (e : ℕ) (l : List ℕ) → eqb (end_mark e l % 2) 1 ≡ is_header l
mark-head e l = go (is_header l)
  where
    go : (b : Bool) → eqb ((2 * e + cond b 1 0) % 2) 1 ≡ b
    go true = let z : (2 * e + 1) % 2 ≡ 1 = omega arith in eq-eqb ((2 * e + 1) % 2) 1 z
    go false = let z : (2 * e + 0) % 2 ≡ 0 = omega arith in ne_eqb ((2 * e + 0) % 2) 1 (λ y. omega (arith, y, z))

-- the lines ls begin at i in t: they are found by their marks
Found : List ℕ → List (List ℕ) → ℕ → ℕ → Type 0
Found t ls i k = (part (begin i (end_marks i ls) k) (get_or (end_marks i ls) k 0 / 2) t ≡ get_or ls k []) × (eqb (get_or (end_marks i ls) k 0 % 2) 1 ≡ is_header (get_or ls k []))

begin-next : (i k : ℕ) (l : List ℕ) (ms : List ℕ) → begin i (end_mark (i + length l) l ∷ ms) (suc k) ≡ begin (suc (i + length l)) ms k
unfolding begin
begin-next i zero l ms = let z = mark-end (i + length l) l in omega (arith, z)
begin-next i (suc k) l ms = refl

found-next : (t : List ℕ) (i k : ℕ) (l : List ℕ) (ls : List (List ℕ)) → Found t ls (suc (i + length l)) k → Found t (l ∷ ls) i (suc k)
unfolding Found end_marks
found-next t i k l ls f =
    (ap (λ (x : ℕ). part x (get_or (end_marks (suc (i + length l)) ls) k 0 / 2) t) (begin-next i k l (end_marks (suc (i + length l)) ls)) ∙ f.0, f.1)

found_first : (t : List ℕ) (i e : ℕ) (ls : List (List ℕ)) → i + length (part i e t) ≡ e → Found t (part i e t ∷ ls) i 0
unfolding Found begin end_marks
found_first t i e ls q =
    (ap (λ (x : ℕ). part i x t) (mark-end (i + length (part i e t)) (part i e t) ∙ q), mark-head (i + length (part i e t)) (part i e t))

line-long : (t : List ℕ) (i e : ℕ) → i < length t → e ≡ i + up_to 10 (drop i t) → i + length (part i e t) ≡ e
line-long t i e h q = let z = find-le 10 t i e (omega (arith, h)) q in omega (arith, z, q, length-take (e - i) (drop i t), length-drop i t)

below-line : (t : List ℕ) (i e : ℕ) → i + length (part i e t) ≡ e → lines_of (drop (min (e + 1) (length t)) t) ≡ lines_of (drop (suc (i + length (part i e t))) t)
below-line t i e q = go (ltb (e + 1) (length t)) refl
  where
    go : (b : Bool) → ltb (e + 1) (length t) ≡ b → lines_of (drop (min (e + 1) (length t)) t) ≡ lines_of (drop (suc (i + length (part i e t))) t)
    go true w = let x = ltb-true (e + 1) (length t) w in let z : min (e + 1) (length t) ≡ suc (i + length (part i e t)) = omega (arith, x, q) in ap (λ (j : ℕ). lines_of (drop j t)) z
    go false w = let x = ltb-false (e + 1) (length t) w in lines_end t (min (e + 1) (length t)) (omega (arith, x)) ∙ sym (lines_end t (suc (i + length (part i e t))) (omega (arith, x, q)))

lines_cut : (t : List ℕ) (i : ℕ) → i < length t →
    lines_of (drop i t) ≡ part i (i + up_to 10 (drop i t)) t ∷ lines_of (drop (suc (i + length (part i (i + up_to 10 (drop i t)) t))) t)
lines_cut t i h =
    let e : ℕ = i + up_to 10 (drop i t) in
    lines-at t i e h refl ∙ ap (λ (ls : List (List ℕ)). part i e t ∷ ls) (below-line t i e (line-long t i e h refl))

inside : (t : List ℕ) (i k : ℕ) → k < length (lines_of (drop i t)) → i < length t
inside t i k l = go (ltb i (length t)) refl
  where
    go : (b : Bool) → ltb i (length t) ≡ b → i < length t
    go true w = ltb-true i (length t) w
    go false w = let z = ap (λ (ls : List (List ℕ)). length ls) (lines_end t i (ltb-false i (length t) w)) in absurd (omega (arith, z, l))

found : (t : List ℕ) (k i : ℕ) → k < length (lines_of (drop i t)) → Found t (lines_of (drop i t)) i k
found t zero i l =
    let h = inside t i 0 l in
    let e : ℕ = i + up_to 10 (drop i t) in
    subst (λ (ls : List (List ℕ)). Found t ls i 0) (sym (lines_cut t i h)) (found_first t i e (lines_of (drop (suc (i + length (part i e t))) t)) (line-long t i e h refl))
found t (suc k) i l =
    let h = inside t i (suc k) l in
    let e : ℕ = i + up_to 10 (drop i t) in
    let z = ap (λ (ls : List (List ℕ)). length ls) (lines_cut t i h) in
    subst (λ (ls : List (List ℕ)). Found t ls i (suc k)) (sym (lines_cut t i h))
    (found-next t i k (part i e t) (lines_of (drop (suc (i + length (part i e t))) t)) (found t k (suc (i + length (part i e t))) (omega (arith, z, l))))

-- by the table of a text
abbrev start_at : List ℕ → ℕ → ℕ
start_at es k = cond (eqb k 0) 0 (get_or es (k - 1) 0 / 2 + 1)

module _ {t es bs : List ℕ} {m : ℕ} (w : Told t es bs m) (k : ℕ) (h : k < m) where
  entry_at : (j : ℕ) → j < m → get_or es j 0 ≡ get_or (end_marks 0 (lines_of t)) j 0
  entry_at j i = ap (λ (d : List ℕ). get_or d j 0) w.marks ∙ get_or-append (end_marks 0 (lines_of t)) w.behind 0 j (omega (arith, i, w.count, marks-length 0 (lines_of t)))

  found_here : Found t (lines_of t) 0 k
  found_here = found t k 0 (omega (arith, h, w.count))

  begins-at : start_at es k ≡ begin 0 (end_marks 0 (lines_of t)) k
  unfolding begin
  begins-at = go k h
    where
      go : (k : ℕ) → k < m → start_at es k ≡ begin 0 (end_marks 0 (lines_of t)) k
      go zero i = refl
      go (suc j) i = rw (ne_eqb (suc j) 0 (λ y. omega (arith, y))) (ap (λ (x : ℕ). x / 2 + 1) (ap (λ (x : ℕ). get_or es x 0) (omega arith) ∙ entry_at j (omega (arith, i))))

  -- the line with k above it
  pub line-found : {x : ℕ} → x ≡ get_or es k 0 → {a : ℕ} → a ≡ start_at es k → {l : List ℕ} → l ≡ part a (x / 2) t → l ≡ line_at t k
  unfolding Found
  line-found {x} e {a} q {l} u =
      u ∙ ap (λ (y : ℕ). part y (x / 2) t) (q ∙ begins-at) ∙ ap (λ (y : ℕ). part (begin 0 (end_marks 0 (lines_of t)) k) (y / 2) t) (e ∙ entry_at k h) ∙ found_here.0

  -- whether it opens a region
  pub head-found : {x : ℕ} → x ≡ get_or es k 0 → (c n : ℕ) → cond (eqb (x % 2) 1) c n ≡ cond (is_header (line_at t k)) c n
  unfolding Found
  head-found e c n = ap (λ (y : ℕ). cond (eqb (y % 2) 1) c n) (e ∙ entry_at k h) ∙ ap (λ (b : Bool). cond b c n) found_here.1

-- the table of ends has an entry for each line itself
pub told-ends : {t es bs : List ℕ} {n : ℕ} → Told t es bs n → Told t es es n
told-ends w = record { count = w.count; behind = w.behind; marks = w.marks; long = omega (arith, w.count, (told-long w).0) }

-- ---- the walk

pub record Upward (own t near₀ stores₀ notes₀ near stores notes : List ℕ) (k h : ℕ) : Type 0 where
  pub within : k ≤ length (lines_of t)
  pub tail : Tail own (drop k (lines_of t)) h near stores
  pub spans : Spans t notes
  pub same-near : length near ≡ length near₀
  pub same-stores : length stores ≡ length stores₀
  pub same-notes : length notes ≡ length notes₀

pub upward-start : (own t near stores notes : List ℕ) (m : ℕ) → m ≡ length (lines_of t) → AtMost 0 near → AtMost 0 stores → AtMost 0 notes → Upward own t near stores notes near stores notes m 0
upward-start own t near stores notes m q a b d = record {
  within = omega (arith, q);
  tail = subst (λ (ls : List (List ℕ)). Tail own ls 0 near stores) (sym (drop_of_length-le (lines_of t) {i = m} (omega (arith, q)))) (tail_none own near stores a b);
  spans = spans-none t notes d;
  same-near = refl;
  same-stores = refl;
  same-notes = refl;
}

-- one line more: j is the number of the lines above it
pub upward-on : {own t near₀ stores₀ notes₀ near stores notes : List ℕ} {k h : ℕ} → Upward own t near₀ stores₀ notes₀ near stores notes k h → (j c : ℕ) → 0 < k → j ≡ k - 1 → c ≡ length (lines_of t) - j →
    {l : List ℕ} → l ≡ line_at t j → {near' stores' notes' : List ℕ} {h' : ℕ} →
    near' ≡ read_runs own c h (runs (text_of l (parse_of l))) (mark_store own 0 (parse_of l) near) → stores' ≡ mark_store own c (parse_of l) stores →
    notes' ≡ note_line own (parse_of l) j c h near stores notes → h' ≡ cond (is_header (line_at t j)) c h →
    Upward own t near₀ stores₀ notes₀ near' stores' notes' j h'
upward-on {own} {t} {near₀} {stores₀} {notes₀} {near} {stores} {notes} {k} {h} v j c p e q {l} u {near'} {stores'} {notes'} {h'} a b d f =
    let i : j < length (lines_of t) = omega (arith, p, e, v.within) in
    let z : suc j ≡ k = omega (arith, p, e) in
    let ls : List (List ℕ) = drop (suc j) (lines_of t) in
    let w : Tail own ls h near stores = subst (λ (n : ℕ). Tail own (drop n (lines_of t)) h near stores) (sym z) v.tail in
    let n : c ≡ suc (length ls) = omega (arith, q, i, length-drop (suc j) (lines_of t)) in
    let y : h' ≡ cond (is_header l) c h = f ∙ sym (ap (λ (x : List ℕ). cond (is_header x) c h) u) in
    record {
      within = omega (arith, i);
      tail = subst (λ (us : List (List ℕ)). Tail own us h' near' stores') (ap (λ (x : List ℕ). x ∷ ls) u ∙ sym (drop-cons (lines_of t) j [] i)) (tail-on own l ls c h h' near stores near' stores' a b n y w);
      spans = subst (Spans t) (sym (d ∙ ap (λ (x : List ℕ). note_line own (parse_of x) j c h near stores notes) u)) (spans_on t own j c h near stores notes i n w v.spans);
      same-near = ap (λ (x : List ℕ). length x) a ∙ runs-length own c h (runs (text_of l (parse_of l))) (mark_store own 0 (parse_of l) near) ∙ store_length own 0 (parse_of l) near ∙ v.same-near;
      same-stores = ap (λ (x : List ℕ). length x) b ∙ store_length own c (parse_of l) stores ∙ v.same-stores;
      same-notes = ap (λ (x : List ℕ). length x) d ∙ note-length own (parse_of l) j c h near stores notes ∙ v.same-notes;
    }

-- a text without notes
pub spans-empty : (t d : List ℕ) → Spans t (take 0 d)
spans-empty t d = λ v k n i s. (λ x. absurd (omega (arith, x)), λ x y. absurd (omega (arith, y)))
