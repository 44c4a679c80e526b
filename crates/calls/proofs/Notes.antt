-- Laws of making the notes of lines, from the last to the first. Assumes nothing.
use Prim.Native.Nat.{ℕ, suc, ◌+◌, ◌-◌, ◌*◌, ◌/◌, ◌≤◌, ◌<◌, max}
use mathlib.Core.Path.{◌≡◌, refl, sym, ap, subst, ◌∙◌}
use mathlib.Core.Bool.{Bool, true, false, cond, ◌&&◌}
use mathlib.Core.List.{List, [], ◌∷◌, ◌++◌}
use native.Mathlib.Omega.{arith}
use borrow.Author.Tests.{lt-ltb, le-ltb, ltb-true, eqb-true, eqb-false}
use lib.Dec.{eqb, ltb}
use lib.ListN.{length, drop, get_or, set, length-set}
use lib.Seq.{drop-drop, get_or-set_same, get_or-set_other}
use Rattle.lines.specs.Lf.{part, lines_of}
use Rattle.lines.proofs.Tests.{and-false, and_left, and_right}
use Rattle.names.specs.Names.{reg_of, reg_is}
use Rattle.std.specs.declared.option.Option.{Option}
use Rattle.names.specs.declared.Register.{Register}
use Rattle.std.specs.declared.option.Option.TheVariants.{Some, None}
use Rattle.parse.specs.Parse.{parse_of, text_of}
use Rattle.parse.specs.declared.Store.{Store}
use Rattle.parse.specs.declared.Line.{Line}
use Rattle.parse.specs.declared.Line.TheVariants as line
use Rattle.names.proofs.Texts.{reg-first}
use Rattle.words.specs.Runs.{flush, runs, count_by, reads_of}
use Rattle.words.specs.Inner.Runs.{run_len, reg_gap}
use Rattle.words.proofs.Walk.{RegWalk, regs-start, regs-less, regs-on, regs-end}
use Rattle.place.specs.Region.{is_header}
use Rattle.reading.specs.Reading.{plain}
use Rattle.reading.specs.Uses.{line_reads, stores_by, line_stores}
use Rattle.decls.specs.Inner.Firsts.{first_by, store_from, head_from}
use Rattle.decls.specs.Inner.Seen.{mark_store, AtMost}
use Rattle.decls.proofs.SeenLaws.{entry_past, store_length, store_entry, first-le}
use Rattle.slots.specs.Inner.Slots.{slot_of, entry_of, with_entry}
use Rattle.slots.proofs.SlotLaws.{Placed, slot_kept, entry_length, entry-same, entry_other}
use Rattle.calls.specs.LeavesOf.{leaves_of}
use Rattle.calls.specs.Calls.{read_later}
use Rattle.calls.specs.Inner.Tables.{line_at}
use Rattle.calls.specs.Inner.Later.{read_in, read_name, read_runs, read_span, stop_span, has_places, note_put, note_line, Noted, Spans}
use Rattle.calls.proofs.Lasts.{last_by, read_end, later-true, later-false}

-- ---- the entry of a register after the line with the number c, where h is the number of the next header below, and e was its entry

-- a read of it
abbrev seen_by : ℕ → ℕ → ℕ → ℕ
seen_by c h e = cond (ltb h e) e c

seen-high : (c h e : ℕ) → h < c → seen_by c h (seen_by c h e) ≡ seen_by c h e
seen-high c h e k = go (ltb h e) refl
  where
    go : (b : Bool) → ltb h e ≡ b → seen_by c h (cond b e c) ≡ cond b e c
    go true q = rw q
    go false q = rw (lt-ltb h c k)

name-length : (own : List ℕ) (c h : ℕ) (r : Option Register) (d : List ℕ) → length (read_name own c h r d) ≡ length d
name-length own c h None d = refl
name-length own c h (Some q) d = go (ltb h (entry_of own q.0 d))
  where
    go : (b : Bool) → length (cond b d (with_entry own q.0 c d)) ≡ length d
    go true = refl
    go false = entry_length own d q.0 c

pub runs-length : (own : List ℕ) (c h : ℕ) (rs : List (List ℕ)) (d : List ℕ) → length (read_runs own c h rs d) ≡ length d
unfolding read_runs
runs-length own c h [] d = refl
runs-length own c h (r ∷ rs) d = runs-length own c h rs (read_name own c h (reg_of r) d) ∙ name-length own c h (reg_of r) d

pub note-length : (own : List ℕ) (p : Line) (k c h : ℕ) (near stores d : List ℕ) → length (note_line own p k c h near stores d) ≡ length d
note-length own line.Decl k c h near stores d = refl
note-length own (line.Store s) k c h near stores d = go (has_places own s.reg.0 k near stores d)
  where
    r : ℕ
    r = read_span c h (entry_of own s.reg.0 near)

    t : ℕ
    t = stop_span c h (entry_of own s.reg.0 stores)

    go : (b : Bool) → length (cond b (set (set d (2 * k) r) (2 * k + 1) t) d) ≡ length d
    go true = length-set (set d (2 * k) r) (2 * k + 1) t ∙ length-set d (2 * k) r
    go false = refl
note-length own line.Other k c h near stores d = refl

name-entry : (own : List ℕ) (c h v : ℕ) (r : Option Register) (d : List ℕ) → Placed own v d → entry_of own v (read_name own c h r d) ≡ cond (reg_is v r) (seen_by c h (entry_of own v d)) (entry_of own v d)
name-entry own c h v None d k = refl
name-entry own c h v (Some q) d k = go (eqb q.0 v) refl
  where
    other : (b : Bool) → (q.0 ≡ v → ⊥) → entry_of own v (cond b d (with_entry own q.0 c d)) ≡ entry_of own v d
    other true n = refl
    other false n = entry_other own d q.0 c v k n

    same : (b : Bool) → entry_of own v (cond b d (with_entry own v c d)) ≡ cond b (entry_of own v d) c
    same true = refl
    same false = entry-same own d v c k

    go : (b : Bool) → eqb q.0 v ≡ b → entry_of own v (cond (ltb h (entry_of own q.0 d)) d (with_entry own q.0 c d)) ≡ cond b (seen_by c h (entry_of own v d)) (entry_of own v d)
    go true e = ap (λ (n : ℕ). entry_of own v (cond (ltb h (entry_of own n d)) d (with_entry own n c d))) (eqb-true q.0 v e) ∙ same (ltb h (entry_of own v d))
    go false e = other (ltb h (entry_of own q.0 d)) (eqb-false q.0 v e)

-- the runs of a text that name register v
named : ℕ → List (List ℕ) → ℕ
named v rs = count_by (λ (r : List ℕ). reg_is v (reg_of r)) rs

runs_entry : (own : List ℕ) (c h v : ℕ) (rs : List (List ℕ)) (d : List ℕ) → h < c → Placed own v d →
    entry_of own v (read_runs own c h rs d) ≡ cond (ltb 0 (named v rs)) (seen_by c h (entry_of own v d)) (entry_of own v d)
unfolding read_runs count_by named
runs_entry own c h v [] d i k = refl
runs_entry own c h v (r ∷ rs) d i k =
    runs_entry own c h v rs (read_name own c h (reg_of r) d) i (slot_kept own d (read_name own c h (reg_of r) d) v (name-length own c h (reg_of r) d) k)
    ∙ ap (λ (e : ℕ). cond (ltb 0 (named v rs)) (seen_by c h e) e) (name-entry own c h v (reg_of r) d k)
    ∙ go (reg_is v (reg_of r)) (named v rs)
  where
    e : ℕ
    e = entry_of own v d

    both : (t : Bool) (x : ℕ) → cond t x x ≡ x
    both true x = refl
    both false x = refl

    go : (b : Bool) (n : ℕ) → cond (ltb 0 n) (seen_by c h (cond b (seen_by c h e) e)) (cond b (seen_by c h e) e) ≡ cond (ltb 0 (cond b (suc n) n)) (seen_by c h e) e
    go true n =
        let z : 0 < suc n = omega arith in
        ap (λ (x : ℕ). cond (ltb 0 n) x (seen_by c h e)) (seen-high c h e i) ∙ both (ltb 0 n) (seen_by c h e) ∙ sym (ap (λ (b : Bool). cond b (seen_by c h e) e) (lt-ltb 0 (suc n) z))
    go false n = refl

-- ---- the tables after the lines ls

pub record Tail (own : List ℕ) (ls : List (List ℕ)) (h : ℕ) (near stores : List ℕ) : Type 0 where
  pub head : h ≡ head_from ls
  pub reads : (v : ℕ) → Placed own v near → read_end v ls ≡ cond (ltb h (entry_of own v near)) (entry_of own v near) 0
  pub most : (v : ℕ) → Placed own v near → entry_of own v near ≤ length ls
  pub stored : (v : ℕ) → Placed own v stores → entry_of own v stores ≡ store_from v ls

pub tail_none : (own near stores : List ℕ) → AtMost 0 near → AtMost 0 stores → Tail own [] 0 near stores
unfolding first_by read_end
tail_none own near stores a b = record {
  head = refl;
  reads = λ v k. let y = a (slot_of (length near) own v) in let z : entry_of own v near ≤ 0 = y in rw (le-ltb 0 (entry_of own v near) z);
  most = λ v k. a (slot_of (length near) own v);
  stored = λ v k. let y = b (slot_of (length stores) own v) in omega (arith, y);
}

-- what the entry of a register is after one line more, by whether that opens a region, stores the register and reads it
module _ (c h e : ℕ) (i : h < c) (j : e ≤ c) where
  after : Bool → Bool → ℕ
  after b r = cond r (seen_by c h (cond b 0 e)) (cond b 0 e)

  after-most : (b r : Bool) → after b r ≤ c
  unfolding after
  after-most true true = rw (le-ltb h 0 (omega arith)) (omega arith)
  after-most true false = omega arith
  after-most false true = go (ltb h e)
    where
      go : (t : Bool) → cond t e c ≤ c
      go true = j
      go false = omega arith
  after-most false false = j

  after_last : (a b r : Bool) → last_by a b r c (cond (ltb h e) e 0) ≡ cond (ltb (cond a c h) (after b r)) (after b r) 0
  unfolding last_by after
  after_last true b r = rw (le-ltb c (after b r) (after-most b r))
  after_last false true true = rw (le-ltb h 0 (omega arith), lt-ltb h c i)
  after_last false true false = rw (le-ltb h 0 (omega arith))
  after_last false false true = go (ltb h e) refl
    where
      go : (t : Bool) → ltb h e ≡ t → cond (ltb 0 (cond t e 0)) (cond t e 0) c ≡ cond (ltb h (cond t e c)) (cond t e c) 0
      go true q = let z = ltb-true h e q in rw (lt-ltb 0 e (omega arith), q)
      go false q = rw (lt-ltb h c i)
  after_last false false false = go (ltb h e) refl
    where
      go : (t : Bool) → ltb h e ≡ t → cond (ltb 0 (cond t e 0)) (cond t e 0) 0 ≡ cond t e 0
      go true q = let z = ltb-true h e q in rw (lt-ltb 0 e (omega arith))
      go false q = refl

module _ (own : List ℕ) (l : List ℕ) (ls : List (List ℕ)) (c h h' : ℕ) (near stores near' stores' : List ℕ) (y : near' ≡ read_runs own c h (runs (text_of l (parse_of l))) (mark_store own 0 (parse_of l) near))
    (z : stores' ≡ mark_store own c (parse_of l) stores) (q : c ≡ suc (length ls)) (u : h' ≡ cond (is_header l) c h) where
  near-length : length near' ≡ length near
  near-length = ap (λ (d : List ℕ). length d) y ∙ runs-length own c h (runs (text_of l (parse_of l))) (mark_store own 0 (parse_of l) near) ∙ store_length own 0 (parse_of l) near

  stores-length : length stores' ≡ length stores
  stores-length = ap (λ (d : List ℕ). length d) z ∙ store_length own c (parse_of l) stores

  near-entry : (v : ℕ) → Placed own v near → h < c → entry_of own v near' ≡ cond (ltb 0 (line_reads v l)) (seen_by c h (cond (line_stores v l) 0 (entry_of own v near))) (cond (line_stores v l) 0 (entry_of own v near))
  unfolding line_reads line_stores named
  near-entry v k i =
      ap (λ (d : List ℕ). entry_of own v d) y
      ∙ runs_entry own c h v (runs (text_of l (parse_of l))) (mark_store own 0 (parse_of l) near) i (slot_kept own near (mark_store own 0 (parse_of l) near) v (store_length own 0 (parse_of l) near) k)
      ∙ ap (λ (e : ℕ). cond (ltb 0 (reads_of v (text_of l (parse_of l)))) (seen_by c h e) e) (store_entry own 0 v (parse_of l) near k)

  pub tail-on : Tail own ls h near stores → Tail own (l ∷ ls) h' near' stores'
  unfolding first_by read_end line_stores after
  tail-on t =
      let b = first-le (λ (l : List ℕ). is_header l) ls in
      let i : h < c = omega (arith, b, t.head, q) in
      record {
        head = u ∙ ap (λ (n : ℕ). cond (is_header l) n h) q ∙ ap (cond (is_header l) (suc (length ls))) t.head;
        reads = λ v k.
            let k' = slot_kept own near' near v (sym near-length) k in
            let j : entry_of own v near ≤ c = omega (arith, t.most v k', q) in
            ap (last_by (is_header l) (line_stores v l) (ltb 0 (line_reads v l)) (suc (length ls))) (t.reads v k')
            ∙ ap (λ (n : ℕ). last_by (is_header l) (line_stores v l) (ltb 0 (line_reads v l)) n (cond (ltb h (entry_of own v near)) (entry_of own v near) 0)) (sym q)
            ∙ after_last c h (entry_of own v near) i j (is_header l) (line_stores v l) (ltb 0 (line_reads v l))
            ∙ sym (ap (λ (n : ℕ). cond (ltb n (entry_of own v near')) (entry_of own v near') 0) u ∙ ap (λ (n : ℕ). cond (ltb (cond (is_header l) c h) n) n 0) (near-entry v k' i));
        most = λ v k.
            let k' = slot_kept own near' near v (sym near-length) k in
            let j : entry_of own v near ≤ c = omega (arith, t.most v k', q) in
            let m = after-most c h (entry_of own v near) i j (line_stores v l) (ltb 0 (line_reads v l)) in
            omega (arith, m, near-entry v k' i, q);
        stored = λ v k.
            let k' = slot_kept own stores' stores v (sym stores-length) k in
            ap (λ (d : List ℕ). entry_of own v d) z ∙ store_entry own c v (parse_of l) stores k' ∙ rw (t.stored v k', q);
      }

-- ---- a note that is made with such tables is right

note-right : (own : List ℕ) (v : ℕ) (ls : List (List ℕ)) (c h : ℕ) (near stores : List ℕ) → Tail own ls h near stores → c ≡ suc (length ls) → Placed own v near → Placed own v stores → (d : ℕ) →
    (d < read_span c h (entry_of own v near) → read_later (leaves_of plain) v (drop d ls) ≡ true)
    × (read_span c h (entry_of own v near) ≤ d → d < stop_span c h (entry_of own v stores) → read_later (leaves_of plain) v (drop d ls) ≡ false)
note-right own v ls c h near stores t q i j d = go (ltb h (entry_of own v near)) refl
  where
    e : ℕ
    e = entry_of own v near

    none : (0 < read_end v ls → length ls < read_end v ls + d) → d < c - max h (entry_of own v stores) → read_later (leaves_of plain) v (drop d ls) ≡ false
    none f k = later-false v d ls (omega (arith, k, q, t.head)) (omega (arith, k, q, t.stored v j)) f

    go : (b : Bool) → ltb h e ≡ b → (d < cond b (c - e) 0 → read_later (leaves_of plain) v (drop d ls) ≡ true)
        × (cond b (c - e) 0 ≤ d → d < c - max h (entry_of own v stores) → read_later (leaves_of plain) v (drop d ls) ≡ false)
    go true w =
        let x = ltb-true h e w in
        let r : read_end v ls ≡ e = t.reads v i ∙ rw w in
        (λ k. later-true v d ls (omega (arith, r, x)) (omega (arith, r, k, q)), λ k m. none (λ s. omega (arith, r, k, q)) m)
    go false w =
        let r : read_end v ls ≡ 0 = t.reads v i ∙ rw w in
        (λ k. absurd (omega (arith, k)), λ k m. none (λ s. absurd (omega (arith, r, s))) m)

-- ---- the notes of all lines

pub spans-none : (t d : List ℕ) → AtMost 0 d → Spans t d
spans-none t d h = λ v k n i s. (λ x. let y = h (2 * k) in absurd (omega (arith, x, y)), λ x y. let z = h (2 * k + 1) in absurd (omega (arith, y, z)))

-- of a line that stores register u
put-spans : (t own : List ℕ) (u k c h : ℕ) (near stores d : List ℕ) → ((v : ℕ) → line_stores v (line_at t k) ≡ true → u ≡ v) → k < length (lines_of t) → c ≡ suc (length (drop (suc k) (lines_of t))) →
    Tail own (drop (suc k) (lines_of t)) h near stores → Spans t d → Spans t (note_put own u k c h near stores d)
put-spans t own u k c h near stores d f l q w s = go (has_places own u k near stores d) refl
  where
    r : ℕ
    r = read_span c h (entry_of own u near)

    x : ℕ
    x = stop_span c h (entry_of own u stores)

    d₁ : List ℕ
    d₁ = set d (2 * k) r

    d₂ : List ℕ
    d₂ = set d₁ (2 * k + 1) x

    below : (n : ℕ) → k ≤ n → drop (n - k) (drop (suc k) (lines_of t)) ≡ drop (suc n) (lines_of t)
    below n i = let z : suc k + (n - k) ≡ suc n = omega arith in drop-drop (n - k) (suc k) (lines_of t) ∙ ap (λ (j : ℕ). drop j (lines_of t)) z

    other : (j : ℕ) → (j ≡ 2 * k → ⊥) → (j ≡ 2 * k + 1 → ⊥) → get_or d₂ j 0 ≡ get_or d j 0
    other j a b = get_or-set_other d₁ (2 * k + 1) j x 0 b ∙ get_or-set_other d (2 * k) j r 0 a

    at : has_places own u k near stores d ≡ true → (v j n : ℕ) → j ≤ n → (b : Bool) → eqb j k ≡ b → Noted v (line_at t j) (get_or d₂ (2 * j) 0) (get_or d₂ (2 * j + 1) 0) (n - j) (drop (suc n) (lines_of t))
    at p v j n i false e = let o = eqb-false j k e in
        subst (λ (y : ℕ). Noted v (line_at t j) y (get_or d₂ (2 * j + 1) 0) (n - j) (drop (suc n) (lines_of t))) (sym (other (2 * j) (λ y. o (omega (arith, y))) (λ y. omega (arith, y))))
        (subst (λ (y : ℕ). Noted v (line_at t j) (get_or d (2 * j) 0) y (n - j) (drop (suc n) (lines_of t))) (sym (other (2 * j + 1) (λ y. omega (arith, y)) (λ y. o (omega (arith, y)))))
        (s v j n i))
    at p v j n i true e =
        subst (λ (m : ℕ). Noted v (line_at t m) (get_or d₂ (2 * m) 0) (get_or d₂ (2 * m + 1) 0) (n - m) (drop (suc n) (lines_of t))) (sym (eqb-true j k e)) (here n (let y = eqb-true j k e in omega (arith, i, y)))
      where
        half : k < length d / 2
        half = ltb-true k (length d / 2) (and_right (ltb (slot_of (length stores) own u) (length stores)) (ltb k (length d / 2)) (and_right (ltb (slot_of (length near) own u) (length near)) (ltb (slot_of (length stores) own u) (length stores) && ltb k (length d / 2)) p))

        pn : Placed own u near
        pn = ltb-true (slot_of (length near) own u) (length near) (and_left (ltb (slot_of (length near) own u) (length near)) (ltb (slot_of (length stores) own u) (length stores) && ltb k (length d / 2)) p)

        ps : Placed own u stores
        ps = ltb-true (slot_of (length stores) own u) (length stores) (and_left (ltb (slot_of (length stores) own u) (length stores)) (ltb k (length d / 2)) (and_right (ltb (slot_of (length near) own u) (length near)) (ltb (slot_of (length stores) own u) (length stores) && ltb k (length d / 2)) p))

        first : get_or d₂ (2 * k) 0 ≡ r
        first = get_or-set_other d₁ (2 * k + 1) (2 * k) x 0 (λ y. omega (arith, y)) ∙ get_or-set_same d (2 * k) r 0 (omega (arith, half))

        second : get_or d₂ (2 * k + 1) 0 ≡ x
        second = get_or-set_same d₁ (2 * k + 1) x 0 (omega (arith, half, length-set d (2 * k) r))

        here : (n : ℕ) → k ≤ n → Noted v (line_at t k) (get_or d₂ (2 * k) 0) (get_or d₂ (2 * k + 1) 0) (n - k) (drop (suc n) (lines_of t))
        here n i st =
            let g = subst (λ (b : List (List ℕ)). ((n - k) < r → read_later (leaves_of plain) u b ≡ true) × (r ≤ (n - k) → (n - k) < x → read_later (leaves_of plain) u b ≡ false)) (below n i)
            (note-right own u (drop (suc k) (lines_of t)) c h near stores w q pn ps (n - k)) in
            let o = f v st in
            let g' = subst (λ (m : ℕ). ((n - k) < r → read_later (leaves_of plain) m (drop (suc n) (lines_of t)) ≡ true) × (r ≤ (n - k) → (n - k) < x → read_later (leaves_of plain) m (drop (suc n) (lines_of t)) ≡ false)) o g in
            (λ a. g'.0 (omega (arith, a, first)), λ a b. g'.1 (omega (arith, a, first)) (omega (arith, b, second)))

    go : (b : Bool) → has_places own u k near stores d ≡ b → Spans t (cond b d₂ d)
    go true p = λ v j n i. at p v j n i (eqb j k) refl
    go false p = s

stored-by : (l : List ℕ) (x : Store) → parse_of l ≡ line.Store x → (v : ℕ) → line_stores v l ≡ true → x.reg.0 ≡ v
unfolding line_stores
stored-by l x e v st = eqb-true x.reg.0 v (sym (ap (stores_by v) e) ∙ st)

pub spans_on : (t own : List ℕ) (k c h : ℕ) (near stores d : List ℕ) → k < length (lines_of t) → c ≡ suc (length (drop (suc k) (lines_of t))) →
    Tail own (drop (suc k) (lines_of t)) h near stores → Spans t d → Spans t (note_line own (parse_of (line_at t k)) k c h near stores d)
spans_on t own k c h near stores d l q w s = go (parse_of (line_at t k)) refl
  where
    go : (p : Line) → parse_of (line_at t k) ≡ p → Spans t (note_line own p k c h near stores d)
    go line.Decl e = s
    go (line.Store x) e = put-spans t own x.reg.0 k c h near stores d (stored-by (line_at t k) x e) l q w s
    go line.Other e = s

-- ---- the ways of the code

module _ (own d : List ℕ) (v c h i : ℕ) (e : i ≡ slot_of (length d) own v) where
  -- a register that has no place is not noted
  pub read_past : length d ≤ i → d ≡ read_in own c h v d
  read_past l = go (ltb h (entry_of own v d))
    where
      go : (b : Bool) → d ≡ cond b d (with_entry own v c d)
      go true = refl
      go false = entry_past own d v c i e l

  -- one that a line below reads stays
  pub read_kept : h < get_or d i 0 → d ≡ read_in own c h v d
  read_kept l = rw (lt-ltb h (entry_of own v d) (subst (λ (j : ℕ). h < get_or d j 0) e l))

  pub read-put : get_or d i 0 ≤ h → set d i c ≡ read_in own c h v d
  read-put l = rw (le-ltb h (entry_of own v d) (subst (λ (j : ℕ). get_or d j 0 ≤ h) e l)) (ap (λ (j : ℕ). set d j c) e)

-- the note of a line that stores register v
module _ (own near stores d : List ℕ) (v k c h i j : ℕ) (e : i ≡ slot_of (length near) own v) (f : j ≡ slot_of (length stores) own v) where
  pub no_near : length near ≤ i → d ≡ note_put own v k c h near stores d
  no_near l = rw (le-ltb (slot_of (length near) own v) (length near) (omega (arith, e, l)))

  pub no_store : length stores ≤ j → d ≡ note_put own v k c h near stores d
  no_store l = rw (le-ltb (slot_of (length stores) own v) (length stores) (omega (arith, f, l)), and-false (ltb (slot_of (length near) own v) (length near)))

  pub no_note : length d / 2 ≤ k → d ≡ note_put own v k c h near stores d
  no_note l =
      rw (le-ltb k (length d / 2) l, and-false (ltb (slot_of (length stores) own v) (length stores)), and-false (ltb (slot_of (length near) own v) (length near)))

  pub note-put : i < length near → j < length stores → k < length d / 2 → {r s : ℕ} → r ≡ read_span c h (get_or near i 0) → s ≡ stop_span c h (get_or stores j 0) →
      set (set d (2 * k) r) (2 * k + 1) s ≡ note_put own v k c h near stores d
  note-put a b l {r} {s} x y =
      rw (lt-ltb (slot_of (length near) own v) (length near) (omega (arith, e, a)), lt-ltb (slot_of (length stores) own v) (length stores) (omega (arith, f, b)), lt-ltb k (length d / 2) l)
      (ap (λ (n : ℕ). set (set d (2 * k) n) (2 * k + 1) s) (x ∙ ap (λ (n : ℕ). read_span c h (get_or near n 0)) e)
      ∙ ap (λ (n : ℕ). set (set d (2 * k) (read_span c h (entry_of own v near))) (2 * k + 1) n) (y ∙ ap (λ (n : ℕ). stop_span c h (get_or stores n 0)) f))

-- what a line leaves in the tables, as it was read
pub line-noted : (own l : List ℕ) (k c h : ℕ) (near stores notes : List ℕ) {p : Line} {t near₁ near₂ stores₁ notes₁ : List ℕ} → p ≡ parse_of l → notes₁ ≡ note_line own p k c h near stores notes →
    stores₁ ≡ mark_store own c p stores → near₁ ≡ mark_store own 0 p near → t ≡ text_of l p → near₂ ≡ read_runs own c h (runs t) near₁ →
    (near₂ ≡ read_runs own c h (runs (text_of l (parse_of l))) (mark_store own 0 (parse_of l) near)) × ((stores₁ ≡ mark_store own c (parse_of l) stores) × (notes₁ ≡ note_line own (parse_of l) k c h near stores notes))
line-noted own l k c h near stores notes {p} {t} {near₁} e a b d q y = (
  y ∙ ap (λ (z : List ℕ). read_runs own c h (runs z) near₁) q ∙ ap (read_runs own c h (runs (text_of l p))) d ∙ ap (λ (z : Line). read_runs own c h (runs (text_of l z)) (mark_store own 0 z near)) e,
  (b ∙ ap (λ (z : Line). mark_store own c z stores) e, a ∙ ap (λ (z : Line). note_line own z k c h near stores notes) e),
)

-- ---- the loop over the runs of a text that begin with `r`: it has come to the run at i; d₀ is the table at its start, and d here

pub record ReadsInv (own : List ℕ) (c h : ℕ) (s d₀ d : List ℕ) (i : ℕ) : Type 0 where
  pub long : length d ≡ length d₀
  pub walk : RegWalk (read_runs own c h) s d₀ d i

module _ (own : List ℕ) (c h : ℕ) where
  -- what one run does
  abbrev read_step : List ℕ → List ℕ → List ℕ
  read_step r d = read_name own c h (reg_of r) d

  reads-flush : (cur : List ℕ) (rs : List (List ℕ)) (d : List ℕ) → read_runs own c h (flush cur ++ rs) d ≡ read_runs own c h rs (read_step cur d)
  unfolding read_runs reg_of
  reads-flush [] rs d = refl
  reads-flush (x ∷ cur) rs d = refl

  -- one that begins with another byte names no register
  reads_other : (x : ℕ) (cur d : List ℕ) → eqb x 114 ≡ false → read_step (x ∷ cur) d ≡ d
  reads_other x cur d e = ap (λ (r : Option Register). read_name own c h r d) (reg-first (x ∷ cur) (eqb-false x 114 e))

  reads-empty : (d : List ℕ) → read_runs own c h [] d ≡ d
  unfolding read_runs
  reads-empty d = refl

  pub reads-start : (s d : List ℕ) (i : ℕ) → i ≡ 0 + reg_gap false (drop 0 s) → ReadsInv own c h s d d i
  reads-start s d i q = record { long = refl; walk = regs-start (read_runs own c h) read_step reads-flush reads_other s d i q }

  module _ {s d₀ d : List ℕ} {i : ℕ} (v : ReadsInv own c h s d₀ d i) where
    module _ (l : i < length s) (e : ℕ) (p : e ≡ i + run_len (drop i s)) (k : ℕ) (q : k ≡ e + reg_gap false (drop e s)) where
      pub reads-less : i < k
      reads-less = regs-less (read_runs own c h) read_step reads-flush reads_other v.walk l e p k q

      pub reads_on : (w : List ℕ) → w ≡ part i e s → (d' : List ℕ) → d' ≡ read_step w d → ReadsInv own c h s d₀ d' k
      reads_on w y d' z = record {
        long = ap (λ (t : List ℕ). length t) z ∙ name-length own c h (reg_of w) d ∙ v.long;
        walk = regs-on (read_runs own c h) read_step reads-flush reads_other v.walk l e p k q w y z;
      }

    pub reads_end : length s ≤ i → d ≡ read_runs own c h (runs s) d₀
    reads_end l = regs-end (read_runs own c h) read_step reads-flush reads_other v.walk reads-empty l

-- whether a line stores a register, as it was read
pub stored-as : (l : List ℕ) (p : Line) → p ≡ parse_of l → (v : ℕ) → stores_by v p ≡ line_stores v l
unfolding line_stores
stored-as l p e v = ap (stores_by v) e
