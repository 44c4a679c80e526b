-- Laws of filling the tables of the next lines that use each register, and the notes, from the last line to the first. Assumes nothing.
use Prim.Native.Nat.{ℕ, zero, suc, ◌+◌, ◌-◌, ◌≤◌, ◌<◌}
use mathlib.Core.Path.{◌≡◌, refl, sym, ap, subst, ◌∙◌}
use mathlib.Core.Bool.{Bool, true, false, cond, ◌&&◌}
use mathlib.Core.List.{List, [], ◌∷◌, ◌++◌}
use native.Mathlib.Omega.{arith}
use borrow.Author.Tests.{lt-ltb, le-ltb, ltb-true, ltb-false, eq-eqb, ne_eqb, eqb-true, eqb-false}
use lib.Dec.{eqb, ltb}
use lib.ListN.{length, drop, get_or, set, replicate, length-set, get_or-eq_default}
use lib.Seq.{drop-drop, get_or-set_same, get_or-set_other}
use Rattle.lines.specs.Lf.{part, ends_in, lines_of}
use Rattle.lines.specs.Inner.Lf.{line_start}
use Rattle.lines.proofs.Tests.{no, and-false, and_left, and_right, and_both}
use Rattle.lines.proofs.LfLaws.{lines_end}
use Rattle.names.specs.Names.{reg_of, reg_is}
use Rattle.std.specs.declared.option.Option.{Option}
use Rattle.names.specs.declared.Register.{Register}
use Rattle.std.specs.declared.option.Option.TheVariants.{Some, None}
use Rattle.parse.specs.Parse.{parse_of, text_of}
use Rattle.parse.specs.declared.Store.{Store}
use Rattle.parse.specs.declared.Line.{Line}
use Rattle.parse.specs.declared.Line.TheVariants as line
use Rattle.names.proofs.Texts.{reg-first}
use Rattle.words.specs.Runs.{flush, runs, count_by, reads_of}
use Rattle.words.specs.Inner.Runs.{run_len, reg_gap}
use Rattle.words.proofs.Walk.{RegWalk, regs-start, regs-less, regs-on, regs-end}
use Rattle.place.specs.Region.{is_header, region}
use Rattle.reading.specs.Uses.{line_reads, stores_by, line_stores}
use Rattle.decls.specs.Inner.Seen.{mark_name, mark_store, AtMost}
use Rattle.slots.specs.Inner.Slots.{slot_of, entry_of, with_entry}
use Rattle.slots.proofs.SlotLaws.{Placed, slot_kept, entry_length, entry-after, zeros-long}
use Rattle.decls.specs.Inner.Firsts.{first_by, read_below, store_from, head_from}
use Rattle.decls.proofs.SeenLaws.{set_past, name-length, store_length, store_entry, first-le}
use Rattle.once.specs.Once.{read_count}
use Rattle.once.specs.Inner.Noted.{far_from, far_name, alone_in, alone_store, take_back, back_by, back_name, Reads, read_name, read_runs, area_of, Begins, StartOf, line_note, may_send, NoteIs, first_line, NotesOf, OneOf}
use Rattle.once.proofs.NextLaws.{Nexts, note-is, line-may, note-nothing, note-less}
use Rattle.once.proofs.AreaLaws.{read_some, next-count, CountUp, upward, up-new, up-on, up_done}
use Rattle.once.proofs.BackLaws.{begins-lf, rows_back, line-back, start_of}

-- ---- what stands at a register that has a place

known_some : (own d : List ℕ) (v : ℕ) → 0 < entry_of own v d → Placed own v d
known_some own d v h = go (ltb (slot_of (length d) own v) (length d)) refl
  where
    go : (b : Bool) → ltb (slot_of (length d) own v) (length d) ≡ b → Placed own v d
    go true e = ltb-true (slot_of (length d) own v) (length d) e
    go false e = let z = get_or-eq_default d 0 (ltb-false (slot_of (length d) own v) (length d) e) in absurd (omega arith)

name-near : (own : List ℕ) (m v : ℕ) (r : Option Register) (d : List ℕ) → Placed own v d → entry_of own v (mark_name own m r d) ≡ cond (reg_is v r) m (entry_of own v d)
name-near own m v None d h = refl
name-near own m v (Some q) d h = entry-after own d q.0 m v h

name-far : (own : List ℕ) (v : ℕ) (r : Option Register) (n f : List ℕ) → Placed own v f → entry_of own v (far_name own r n f) ≡ cond (reg_is v r) (entry_of own v n) (entry_of own v f)
name-far own v None n f h = refl
name-far own v (Some q) n f h = entry-after own f q.0 (entry_of own q.0 n) v h ∙ go (eqb q.0 v) refl
  where
    go : (b : Bool) → eqb q.0 v ≡ b → cond b (entry_of own q.0 n) (entry_of own v f) ≡ cond b (entry_of own v n) (entry_of own v f)
    go true e = ap (λ (i : ℕ). entry_of own i n) (eqb-true q.0 v e)
    go false e = refl

far-length : (own : List ℕ) (r : Option Register) (n f : List ℕ) → length (far_name own r n f) ≡ length f
far-length own None n f = refl
far-length own (Some q) n f = entry_length own f q.0 (entry_of own q.0 n)

back-length : (c h r f : ℕ) (d : List ℕ) → length (back_by c h r f d) ≡ length d
back-length c h r f d = go (ltb h r && ltb r f) (ltb c f) (eqb (get_or d (c - f) 0) 7)
  where
    go : (a b e : Bool) → length (cond a (cond b d (cond e (set d (c - f) 4) d)) d) ≡ length d
    go true true e = refl
    go true false true = length-set d (c - f) 4
    go true false false = refl
    go false b e = refl

notes-length : (own : List ℕ) (c h : ℕ) (r : Option Register) (n f d : List ℕ) → length (back_name own c h r n f d) ≡ length d
notes-length own c h None n f d = refl
notes-length own c h (Some q) n f d = back-length c h (entry_of own q.0 n) (entry_of own q.0 f) d

-- the runs of a text that name register v
named : ℕ → List (List ℕ) → ℕ
named v rs = count_by (λ (r : List ℕ). reg_is v (reg_of r)) rs

both : (t : Bool) (x : ℕ) → cond t x x ≡ x
both true x = refl
both false x = refl

module _ (own : List ℕ) (c h m v : ℕ) where
  near-runs : (rs : List (List ℕ)) (d : Reads) → Placed own v d.0 → entry_of own v (read_runs own c h m rs d).0 ≡ cond (ltb 0 (named v rs)) m (entry_of own v d.0)
  unfolding read_runs count_by named
  near-runs [] d k = refl
  near-runs (r ∷ rs) d k =
      near-runs rs (read_name own c h m (reg_of r) d) (slot_kept own d.0 (mark_name own m (reg_of r) d.0) v (name-length own m (reg_of r) d.0) k)
      ∙ ap (cond (ltb 0 (named v rs)) m) (name-near own m v (reg_of r) d.0 k)
      ∙ go (reg_is v (reg_of r)) (named v rs)
    where
      go : (b : Bool) (n : ℕ) → cond (ltb 0 n) m (cond b m (entry_of own v d.0)) ≡ cond (ltb 0 (cond b (suc n) n)) m (entry_of own v d.0)
      go true n = let z : 0 < suc n = omega arith in both (ltb 0 n) m ∙ sym (ap (λ (b : Bool). cond b m (entry_of own v d.0)) (lt-ltb 0 (suc n) z))
      go false n = refl

  far-runs : (rs : List (List ℕ)) (d : Reads) → Placed own v d.0 → Placed own v d.1.0 →
      entry_of own v (read_runs own c h m rs d).1.0 ≡ cond (ltb 0 (named v rs)) (cond (ltb 1 (named v rs)) m (entry_of own v d.0)) (entry_of own v d.1.0)
  unfolding read_runs count_by named
  far-runs [] d k j = refl
  far-runs (r ∷ rs) d k j =
      far-runs rs (read_name own c h m (reg_of r) d) (slot_kept own d.0 (mark_name own m (reg_of r) d.0) v (name-length own m (reg_of r) d.0) k) (slot_kept own d.1.0 (far_name own (reg_of r) d.0 d.1.0) v (far-length own (reg_of r) d.0 d.1.0) j)
      ∙ rw (name-near own m v (reg_of r) d.0 k, name-far own v (reg_of r) d.0 d.1.0 j) (go (reg_is v (reg_of r)) (named v rs))
    where
      go : (b : Bool) (n : ℕ) →
          cond (ltb 0 n) (cond (ltb 1 n) m (cond b m (entry_of own v d.0))) (cond b (entry_of own v d.0) (entry_of own v d.1.0))
          ≡ cond (ltb 0 (cond b (suc n) n)) (cond (ltb 1 (cond b (suc n) n)) m (entry_of own v d.0)) (entry_of own v d.1.0)
      go true zero = refl
      go true (suc n) = rw (lt-ltb 0 (suc n) (omega arith), lt-ltb 0 (suc (suc n)) (omega arith), lt-ltb 1 (suc (suc n)) (omega arith)) (both (ltb 1 (suc n)) m)
      go false n = refl

pub runs-lengths : (own : List ℕ) (c h m : ℕ) (rs : List (List ℕ)) (d : Reads) →
    (length (read_runs own c h m rs d).0 ≡ length d.0) × ((length (read_runs own c h m rs d).1.0 ≡ length d.1.0) × (length (read_runs own c h m rs d).1.1 ≡ length d.1.1))
unfolding read_runs
runs-lengths own c h m [] d = (refl, (refl, refl))
runs-lengths own c h m (r ∷ rs) d =
    let e = runs-lengths own c h m rs (read_name own c h m (reg_of r) d) in
    (e.0 ∙ name-length own m (reg_of r) d.0, (e.1.0 ∙ far-length own (reg_of r) d.0 d.1.0, e.1.1 ∙ notes-length own c h (reg_of r) d.0 d.1.0 d.1.1))

alone-near : (own : List ℕ) (m x v : ℕ) (p : Line) (d : List ℕ) → Placed own v d → entry_of own v (alone_store own m x p d) ≡ cond (eqb x 7 && stores_by v p) m (entry_of own v d)
alone-near own m x v line.Decl d h = sym (ap (λ (b : Bool). cond b m (entry_of own v d)) (and-false (eqb x 7)))
alone-near own m x v (line.Store s) d h = go (eqb x 7)
  where
    go : (b : Bool) → entry_of own v (cond b (with_entry own s.reg.0 m d) d) ≡ cond (b && eqb s.reg.0 v) m (entry_of own v d)
    go true = entry-after own d s.reg.0 m v h
    go false = refl
alone-near own m x v line.Other d h = sym (ap (λ (b : Bool). cond b m (entry_of own v d)) (and-false (eqb x 7)))

pub alone-in : (own : List ℕ) (m x v : ℕ) (d : List ℕ) → length (alone_in own m x v d) ≡ length d
alone-in own m x v d = go (eqb x 7)
  where
    go : (b : Bool) → length (cond b (with_entry own v m d) d) ≡ length d
    go true = entry_length own d v m
    go false = refl

pub alone-length : (own : List ℕ) (m x : ℕ) (p : Line) (d : List ℕ) → length (alone_store own m x p d) ≡ length d
alone-length own m x line.Decl d = refl
alone-length own m x (line.Store s) d = alone-in own m x s.reg.0 d
alone-length own m x line.Other d = refl

-- ---- one line more

nexts-none : (own : List ℕ) (h : ℕ) (near far stores : List ℕ) → (length far ≡ length near) × (length far ≡ length stores) → h ≡ 0 → AtMost 0 near → AtMost 0 far → AtMost 0 stores → Nexts own [] h near far stores
unfolding first_by far_from
nexts-none own h near far stores w z a b c = record {
  wide = w.0;
  tall = w.1;
  head = z;
  reads = λ v k. let y = a (slot_of (length near) own v) in omega arith;
  again = λ v k j. absurd (omega arith);
  stored = λ v k. let y = c (slot_of (length stores) own v) in omega arith;
}

-- what the tables have after a line
module _ (own : List ℕ) (c : ℕ) (l : List ℕ) (ls : List (List ℕ)) (p : Line) (x h m : ℕ) (near far stores notes near' far' notes' : List ℕ) (e : p ≡ parse_of l)
    (y : (near', (far', notes')) ≡ read_runs own c h m (runs (text_of l p)) (near, (alone_store own m x p far, notes))) (w : length far ≡ length near) where
  ln : length near' ≡ length near
  ln = ap (λ (d : Reads). length d.0) y ∙ (runs-lengths own c h m (runs (text_of l p)) (near, (alone_store own m x p far, notes))).0

  lf : length far' ≡ length far
  lf = ap (λ (d : Reads). length d.1.0) y ∙ (runs-lengths own c h m (runs (text_of l p)) (near, (alone_store own m x p far, notes))).1.0 ∙ alone-length own m x p far

  reads_as : (v : ℕ) → named v (runs (text_of l p)) ≡ line_reads v l
  unfolding line_reads named
  reads_as v = ap (λ (q : Line). reads_of v (text_of l q)) e

  near-at : (v : ℕ) → Placed own v near → entry_of own v near' ≡ cond (ltb 0 (line_reads v l)) m (entry_of own v near)
  near-at v k =
      ap (λ (d : Reads). entry_of own v d.0) y ∙ near-runs own c h m v (runs (text_of l p)) (near, (alone_store own m x p far, notes)) k
      ∙ ap (λ (n : ℕ). cond (ltb 0 n) m (entry_of own v near)) (reads_as v)

  far_at : (v : ℕ) → Placed own v near → entry_of own v far' ≡ cond (ltb 0 (line_reads v l)) (cond (ltb 1 (line_reads v l)) m (entry_of own v near)) (entry_of own v (alone_store own m x p far))
  far_at v k =
      ap (λ (d : Reads). entry_of own v d.1.0) y
      ∙ far-runs own c h m v (runs (text_of l p)) (near, (alone_store own m x p far, notes)) k (slot_kept own near (alone_store own m x p far) v (alone-length own m x p far ∙ w) k)
      ∙ ap (λ (n : ℕ). cond (ltb 0 n) (cond (ltb 1 n) m (entry_of own v near)) (entry_of own v (alone_store own m x p far))) (reads_as v)

  alone_at : (v : ℕ) → Placed own v near → (b : Bool) → eqb x 7 && line_stores v l ≡ b → entry_of own v (alone_store own m x p far) ≡ cond b m (entry_of own v far)
  unfolding line_stores
  alone_at v k b z =
      alone-near own m x v p far (slot_kept own near far v w k)
      ∙ ap (λ (t : Bool). cond t m (entry_of own v far)) (ap (λ (q : Line). eqb x 7 && stores_by v q) e ∙ z)

  nexts-on : (stores' : List ℕ) (h' : ℕ) → m ≡ suc (length ls) → stores' ≡ mark_store own m p stores → h' ≡ cond (is_header l) m h → Nexts own ls h near far stores → Nexts own (l ∷ ls) h' near' far' stores'
  unfolding first_by far_from line_stores
  nexts-on stores' h' q z u t = record {
    wide = lf ∙ w ∙ sym ln;
    tall = lf ∙ t.tall ∙ sym lst;
    head = u ∙ ap (λ (n : ℕ). cond (is_header l) n h) q ∙ ap (cond (is_header l) (suc (length ls))) t.head;
    reads = λ v k. let k' = slot_kept own near' near v (sym ln) k in near-at v k' ∙ rw (t.reads v k', q);
    again = λ v k j. let k' = slot_kept own near' near v (sym ln) k in far_at v k' ∙ go v k' (ltb 0 (line_reads v l)) (line_stores v l) refl j;
    stored = λ v k.
        let k' = slot_kept own near' near v (sym ln) k in
        ap (λ (d : List ℕ). entry_of own v d) z ∙ store_entry own m v p stores (slot_kept own near stores v (sym t.tall ∙ w) k') ∙ rw (t.stored v k', e, q);
  }
    where
      lst : length stores' ≡ length stores
      lst = ap (λ (d : List ℕ). length d) z ∙ store_length own m p stores

      go : (v : ℕ) → Placed own v near → (a b : Bool) → line_stores v l ≡ b → cond b (suc (length ls)) (store_from v ls) < cond a (suc (length ls)) (read_below v ls) →
          cond a (cond (ltb 1 (line_reads v l)) m (entry_of own v near)) (entry_of own v (alone_store own m x p far)) ≡ cond a (cond (ltb 1 (line_reads v l)) (suc (length ls)) (read_below v ls)) (far_from v ls)
      go v k true b i j = rw (t.reads v k, q)
      go v k false true i j = let n = first-le (λ (l : List ℕ). ltb 0 (line_reads v l)) ls in absurd (omega arith)
      go v k false false i j = alone_at v k false (ap (λ (b : Bool). eqb x 7 && b) i ∙ and-false (eqb x 7)) ∙ t.again v k j

-- ---- the table of notes

pub notes-none : (us : List (List ℕ)) (ps d : List ℕ) → AtMost 0 d → NotesOf us ps d
notes-none us ps d h = λ k. let z = h k in note-nothing (first_line (drop k us)) (get_or ps k 0) (drop (k + 1) us) (drop (k + 1) ps) (get_or d k 0) (omega arith)

notes-put : (us : List (List ℕ)) (ps d : List ℕ) (k x : ℕ) → NoteIs (first_line (drop k us)) (get_or ps k 0) (drop (k + 1) us) (drop (k + 1) ps) x → NotesOf us ps d → NotesOf us ps (set d k x)
notes-put us ps d k x n h = λ j. go j (eqb j k) refl
  where
    At : ℕ → ℕ → Type 0
    At j m = NoteIs (first_line (drop j us)) (get_or ps j 0) (drop (j + 1) us) (drop (j + 1) ps) m

    same : (b : Bool) → ltb k (length d) ≡ b → At k (get_or (set d k x) k 0)
    same true t = subst (At k) (sym (get_or-set_same d k x 0 (ltb-true k (length d) t))) n
    same false t = subst (At k) (ap (λ (c : List ℕ). get_or c k 0) (set_past d k x (ltb-false k (length d) t))) (h k)

    go : (j : ℕ) (b : Bool) → eqb j k ≡ b → At j (get_or (set d k x) j 0)
    go j true e = subst (λ (i : ℕ). At i (get_or (set d k x) i 0)) (sym (eqb-true j k e)) (same (ltb k (length d)) refl)
    go j false e = subst (At j) (sym (get_or-set_other d k j x 0 (eqb-false j k e))) (h j)

-- a read takes back no more than it may
notes-back : (us : List (List ℕ)) (ps : List ℕ) (c h r f : ℕ) (d : List ℕ) → NotesOf us ps d → NotesOf us ps (back_by c h r f d)
notes-back us ps c h r f d n = go (ltb h r && ltb r f) (ltb c f) (eqb (get_or d (c - f) 0) 7) refl
  where
    i : ℕ
    i = c - f

    go : (a b t : Bool) → eqb (get_or d i 0) 7 ≡ t → NotesOf us ps (cond a (cond b d (cond t (set d i 4) d)) d)
    go true true t e = n
    go true false true e = notes-put us ps d i 4 (note-less (first_line (drop i us)) (get_or ps i 0) (drop (i + 1) us) (drop (i + 1) ps) (get_or d i 0) (eqb-true (get_or d i 0) 7 e) (n i)) n
    go true false false e = n
    go false b t e = n

notes-name : (us : List (List ℕ)) (ps own : List ℕ) (c h : ℕ) (r : Option Register) (n f d : List ℕ) → NotesOf us ps d → NotesOf us ps (back_name own c h r n f d)
notes-name us ps own c h None n f d k = k
notes-name us ps own c h (Some q) n f d k = notes-back us ps c h (entry_of own q.0 n) (entry_of own q.0 f) d k

notes-runs : (us : List (List ℕ)) (ps own : List ℕ) (c h m : ℕ) (rs : List (List ℕ)) (d : Reads) → NotesOf us ps d.1.1 → NotesOf us ps (read_runs own c h m rs d).1.1
unfolding read_runs
notes-runs us ps own c h m [] d k = k
notes-runs us ps own c h m (r ∷ rs) d k = notes-runs us ps own c h m rs (read_name own c h m (reg_of r) d) (notes-name us ps own c h (reg_of r) d.0 d.1.0 d.1.1 k)

-- it adds no 7
back-keeps : (c h r f k : ℕ) (d : List ℕ) → get_or (back_by c h r f d) k 0 ≡ 7 → get_or d k 0 ≡ 7
back-keeps c h r f k d = go (ltb h r && ltb r f) (ltb c f) (eqb (get_or d i 0) 7) refl
  where
    i : ℕ
    i = c - f

    at : get_or d i 0 ≡ 7 → (t : Bool) → eqb k i ≡ t → get_or (set d i 4) k 0 ≡ 7 → get_or d k 0 ≡ 7
    at e true z q = ap (λ (j : ℕ). get_or d j 0) (eqb-true k i z) ∙ e
    at e false z q = sym (get_or-set_other d i k 4 0 (eqb-false k i z)) ∙ q

    go : (a b t : Bool) → eqb (get_or d i 0) 7 ≡ t → get_or (cond a (cond b d (cond t (set d i 4) d)) d) k 0 ≡ 7 → get_or d k 0 ≡ 7
    go true true t e q = q
    go true false true e q = at (eqb-true (get_or d i 0) 7 e) (eqb k i) refl q
    go true false false e q = q
    go false b t e q = q

name-keeps : (own : List ℕ) (c h k : ℕ) (r : Option Register) (n f d : List ℕ) → get_or (back_name own c h r n f d) k 0 ≡ 7 → get_or d k 0 ≡ 7
name-keeps own c h k None n f d q = q
name-keeps own c h k (Some v) n f d q = back-keeps c h (entry_of own v.0 n) (entry_of own v.0 f) k d q

runs-keep : (own : List ℕ) (c h m k : ℕ) (rs : List (List ℕ)) (d : Reads) → get_or (read_runs own c h m rs d).1.1 k 0 ≡ 7 → get_or d.1.1 k 0 ≡ 7
unfolding read_runs
runs-keep own c h m k [] d q = q
runs-keep own c h m k (r ∷ rs) d q = name-keeps own c h k (reg_of r) d.0 d.1.0 d.1.1 (runs-keep own c h m k rs (read_name own c h m (reg_of r) d) q)

-- a read of what goes into the line with the number r takes the 7 back of the line above it, which has k above it
module _ (own : List ℕ) (c h r k : ℕ) (a : h < r) (z : k + suc r ≡ c) where
  back-takes : (d : List ℕ) → get_or (back_by c h r (suc r) d) k 0 ≡ 7 → ⊥
  back-takes d = rw (lt-ltb h r a, lt-ltb r (suc r) (omega arith), le-ltb c (suc r) (omega arith), i) (go (eqb (get_or d k 0) 7) refl)
    where
      i : c - suc r ≡ k
      i = omega arith

      put : (t : Bool) → ltb k (length d) ≡ t → get_or d k 0 ≡ 7 → get_or (set d k 4) k 0 ≡ 7 → ⊥
      put true y e q = let w : ◌≡◌ {A = ℕ} 4 7 = sym (get_or-set_same d k 4 0 (ltb-true k (length d) y)) ∙ q in omega arith
      put false y e q = let w : ◌≡◌ {A = ℕ} 0 7 = sym (get_or-eq_default d 0 (ltb-false k (length d) y)) ∙ e in omega arith

      go : (b : Bool) → eqb (get_or d k 0) 7 ≡ b → get_or (cond b (set d k 4) d) k 0 ≡ 7 → ⊥
      go true e q = put (ltb k (length d)) refl (eqb-true (get_or d k 0) 7 e) q
      go false e q = eqb-false (get_or d k 0) 7 e q

  name-takes : (v : ℕ) (w : Option Register) (n f d : List ℕ) → entry_of own v n ≡ r → entry_of own v f ≡ suc r → reg_is v w ≡ true → get_or (back_name own c h w n f d) k 0 ≡ 7 → ⊥
  name-takes v None n f d e g i q = no i
  name-takes v (Some u) n f d e g i q =
      let x : entry_of own u.0 n ≡ r = ap (λ (j : ℕ). entry_of own j n) (eqb-true u.0 v i) ∙ e in
      let y : entry_of own u.0 f ≡ suc r = ap (λ (j : ℕ). entry_of own j f) (eqb-true u.0 v i) ∙ g in
      back-takes d (ap (λ (j : ℕ). get_or (back_by c h r j d) k 0) (sym y) ∙ ap (λ (j : ℕ). get_or (back_by c h j (entry_of own u.0 f) d) k 0) (sym x) ∙ q)

  runs-take : (m v : ℕ) (rs : List (List ℕ)) (d : Reads) → Placed own v d.0 → Placed own v d.1.0 → entry_of own v d.0 ≡ r → entry_of own v d.1.0 ≡ suc r → 0 < named v rs →
      get_or (read_runs own c h m rs d).1.1 k 0 ≡ 7 → ⊥
  unfolding read_runs count_by named
  runs-take m v [] d l l' e g j q = omega arith
  runs-take m v (w ∷ rs) d l l' e g j q =
      go (λ i y. runs-take m v rs (read_name own c h m (reg_of w) d) (slot_kept own d.0 (mark_name own m (reg_of w) d.0) v (name-length own m (reg_of w) d.0) l) (slot_kept own d.1.0 (far_name own (reg_of w) d.0 d.1.0) v (far-length own (reg_of w) d.0 d.1.0) l')
      (name-near own m v (reg_of w) d.0 l ∙ ap (λ (b : Bool). cond b m (entry_of own v d.0)) i ∙ e)
      (name-far own v (reg_of w) d.0 d.1.0 l' ∙ ap (λ (b : Bool). cond b (entry_of own v d.0) (entry_of own v d.1.0)) i ∙ g) y q)
      (reg_is v (reg_of w)) refl j
    where
      go : (reg_is v (reg_of w) ≡ false → 0 < named v rs → ⊥) → (b : Bool) → reg_is v (reg_of w) ≡ b → 0 < cond b (suc (named v rs)) (named v rs) → ⊥
      go f true i y = name-takes v (reg_of w) d.0 d.1.0 d.1.1 e g i (runs-keep own c h m k rs (read_name own c h m (reg_of w) d) q)
      go f false i y = f i y

-- a 4 stood before the reads of a line, or one of them put it there
data Took (own : List ℕ) (c h k : ℕ) (rs : List (List ℕ)) (d : Reads) : Type 0 where
  stood : get_or d.1.1 k 0 ≡ 4 → Took own c h k rs d
  took : (v : ℕ) → Placed own v d.0 → 0 < named v rs → h < entry_of own v d.0 → entry_of own v d.0 < entry_of own v d.1.0 → k + entry_of own v d.1.0 ≡ c → Took own c h k rs d

module _ (own : List ℕ) (c h k : ℕ) where
  name-took : {A : Type 0} (w : Option Register) (n f d : List ℕ) → get_or (back_name own c h w n f d) k 0 ≡ 4 → (get_or d k 0 ≡ 4 → A) →
      ((v : ℕ) → reg_is v w ≡ true → h < entry_of own v n → entry_of own v n < entry_of own v f → k + entry_of own v f ≡ c → A) → A
  name-took None n f d q s t = s q
  name-took {A} (Some u) n f d q s t = go (ltb h r && ltb r g) refl (ltb c g) refl (eqb (get_or d i 0) 7) q
    where
      r : ℕ
      r = entry_of own u.0 n

      g : ℕ
      g = entry_of own u.0 f

      i : ℕ
      i = c - g

      at : ltb h r && ltb r g ≡ true → ltb c g ≡ false → (b : Bool) → eqb k i ≡ b → get_or (set d i 4) k 0 ≡ 4 → A
      at x y true z o =
          let a = eqb-true k i z in
          let b = ltb-false c g y in
          t u.0 (eq-eqb u.0 u.0 refl) (ltb-true h r (and_left (ltb h r) (ltb r g) x)) (ltb-true r g (and_right (ltb h r) (ltb r g) x)) (omega arith)
      at x y false z o = s (sym (get_or-set_other d i k 4 0 (eqb-false k i z)) ∙ o)

      go : (a : Bool) → ltb h r && ltb r g ≡ a → (b : Bool) → ltb c g ≡ b → (e : Bool) → get_or (cond a (cond b d (cond e (set d i 4) d)) d) k 0 ≡ 4 → A
      go true x true y e o = s o
      go true x false y true o = at x y (eqb k i) refl o
      go true x false y false o = s o
      go false x b y e o = s o

  runs-took : (m : ℕ) (rs : List (List ℕ)) (d : Reads) → length d.1.0 ≡ length d.0 → ((v : ℕ) → Placed own v d.0 → entry_of own v d.0 ≤ m) →
      get_or (read_runs own c h m rs d).1.1 k 0 ≡ 4 → Took own c h k rs d
  unfolding read_runs count_by named
  runs-took m [] d l b q = stood q
  runs-took m (r ∷ rs) d l b q =
      go (runs-took m rs (read_name own c h m (reg_of r) d) (far-length own (reg_of r) d.0 d.1.0 ∙ l ∙ sym (name-length own m (reg_of r) d.0)) most q)
    where
      ln : length (mark_name own m (reg_of r) d.0) ≡ length d.0
      ln = name-length own m (reg_of r) d.0

      less : (v : ℕ) (t : Bool) → entry_of own v d.0 ≤ m → cond t m (entry_of own v d.0) ≤ m
      less v true h = omega arith
      less v false h = h

      most : (v : ℕ) → Placed own v (mark_name own m (reg_of r) d.0) → entry_of own v (mark_name own m (reg_of r) d.0) ≤ m
      most v i =
          let j = slot_kept own (mark_name own m (reg_of r) d.0) d.0 v (sym ln) i in
          let e = name-near own m v (reg_of r) d.0 j in
          omega (arith, e, less v (reg_is v (reg_of r)) (b v j))

      at : (v : ℕ) → Placed own v d.0 → 0 < named v rs → h < entry_of own v (mark_name own m (reg_of r) d.0) →
          entry_of own v (mark_name own m (reg_of r) d.0) < entry_of own v (far_name own (reg_of r) d.0 d.1.0) → k + entry_of own v (far_name own (reg_of r) d.0 d.1.0) ≡ c →
          (t : Bool) → reg_is v (reg_of r) ≡ t → Took own c h k (r ∷ rs) d
      at v i j x y z true e =
          let n = name-near own m v (reg_of r) d.0 i ∙ ap (λ (t : Bool). cond t m (entry_of own v d.0)) e in
          let f = name-far own v (reg_of r) d.0 d.1.0 (slot_kept own d.0 d.1.0 v l i) ∙ ap (λ (t : Bool). cond t (entry_of own v d.0) (entry_of own v d.1.0)) e in
          absurd (omega (arith, n, f, y, b v i))
      at v i j x y z false e =
          let n = name-near own m v (reg_of r) d.0 i ∙ ap (λ (t : Bool). cond t m (entry_of own v d.0)) e in
          let f = name-far own v (reg_of r) d.0 d.1.0 (slot_kept own d.0 d.1.0 v l i) ∙ ap (λ (t : Bool). cond t (entry_of own v d.0) (entry_of own v d.1.0)) e in
          took v i (rw e j) (omega (arith, n, x)) (omega (arith, n, f, y)) (omega (arith, f, z))

      go : Took own c h k rs (read_name own c h m (reg_of r) d) → Took own c h k (r ∷ rs) d
      go (stood o) =
          name-took (reg_of r) d.0 d.1.0 d.1.1 o stood
          (λ v i x y z. took v (known_some own d.0 v (omega arith)) (let n : 0 < suc (named v rs) = omega arith in rw i n) x y z)
      go (took v i j x y z) = at v (slot_kept own (mark_name own m (reg_of r) d.0) d.0 v (sym ln) i) j x y z (reg_is v (reg_of r)) refl

-- ---- the values that the notes say are read once, or more often, by the lines us at the end of the lines ls

-- the line with k above it stores register v, which is read once
pub record OneRow (own : List ℕ) (ls us : List (List ℕ)) (near far : List ℕ) (k v : ℕ) : Type 0 where
  pub next : ℕ
  pub row : k + suc next ≡ length ls
  pub among : next ≤ length us
  pub known : Placed own v near
  pub first : head_from us < next → read_below v us ≡ next
  pub mine : head_from us < next → entry_of own v far ≡ suc next
  pub up : CountUp (λ (n : ℕ). n ≡ 1) v next us

-- more often
pub record MoreRow (ls us : List (List ℕ)) (k v : ℕ) : Type 0 where
  pub next : ℕ
  pub row : k + suc next ≡ length ls
  pub among : next ≤ length us
  pub up : CountUp (λ (n : ℕ). 2 ≤ n) v next us

pub record Ones (own : List ℕ) (ls us : List (List ℕ)) (near far d : List ℕ) : Type 0 where
  pub alone : (k : ℕ) (s : Store) → parse_of (first_line (drop k ls)) ≡ line.Store s → get_or d k 0 ≡ 7 → OneRow own ls us near far k s.reg.0
  pub more : (k : ℕ) (s : Store) → parse_of (first_line (drop k ls)) ≡ line.Store s → get_or d k 0 ≡ 4 → MoreRow ls us k s.reg.0
  pub marked : (v : ℕ) → Placed own v near → entry_of own v near < entry_of own v far →
      (entry_of own v far ≤ suc (length us)) × (line_stores v (first_line (drop (length ls - entry_of own v far) ls)) ≡ true)

ones_none : (own : List ℕ) (ls us : List (List ℕ)) (near far d : List ℕ) → AtMost 0 far → AtMost 0 d → Ones own ls us near far d
ones_none own ls us near far d f h = record {
  alone = λ k s e q. let z = h k in absurd (omega arith);
  more = λ k s e q. let z = h k in absurd (omega arith);
  marked = λ v k q. let z = f (slot_of (length far) own v) in absurd (omega arith);
}

pub once-none : (ls : List (List ℕ)) (d : List ℕ) → AtMost 0 d → OneOf ls d
once-none ls d h = λ k s e. record { alone = λ q. let z = h k in absurd (omega arith); more = λ q. let z = h k in absurd (omega arith) }

pub once-of : (own : List ℕ) (ls : List (List ℕ)) (near far d : List ℕ) → Ones own ls ls near far d → OneOf ls d
once-of own ls near far d o = λ k s e. record {
  alone = λ q.
      let r : OneRow own ls ls near far k s.reg.0 = o.alone k s e q in
      let z = r.row in
      let i : length ls - suc r.next ≡ k = omega arith in
      ap (λ (j : ℕ). read_count s.reg.0 (area_of (region ls) ls j)) (sym i) ∙ up_done (λ (n : ℕ). n ≡ 1) s.reg.0 r.next ls (omega arith) r.up;
  more = λ q w.
      let r : MoreRow ls ls k s.reg.0 = o.more k s e q in
      let z = r.row in
      let i : length ls - suc r.next ≡ k = omega arith in
      let y = up_done (λ (n : ℕ). 2 ≤ n) s.reg.0 r.next ls (omega arith) r.up in
      let x = ap (λ (j : ℕ). read_count s.reg.0 (area_of (region ls) ls j)) i ∙ w in
      omega (arith, x, y);
}

-- the register that a line stores
stores-reg : (v : ℕ) (l : List ℕ) (s : Store) → parse_of l ≡ line.Store s → line_stores v l ≡ true → s.reg.0 ≡ v
unfolding line_stores
stores-reg v l s e q = eqb-true s.reg.0 v (sym (ap (stores_by v) e) ∙ q)

stores_some : (v : ℕ) (l : List ℕ) (q : Line) → parse_of l ≡ q → line_stores v l ≡ true → {A : Type 0} → ((s : Store) → parse_of l ≡ line.Store s → s.reg.0 ≡ v → A) → A
unfolding line_stores
stores_some v l line.Decl e h f = no (sym (ap (stores_by v) e) ∙ h)
stores_some v l (line.Store s) e h f = f s e (eqb-true s.reg.0 v (sym (ap (stores_by v) e) ∙ h))
stores_some v l line.Other e h f = no (sym (ap (stores_by v) e) ∙ h)

set_is : (d : List ℕ) (j x n : ℕ) → 0 < n → get_or (set d j x) j 0 ≡ n → x ≡ n
set_is d j x n h q = go (ltb j (length d)) refl
  where
    go : (b : Bool) → ltb j (length d) ≡ b → x ≡ n
    go true y = sym (get_or-set_same d j x 0 (ltb-true j (length d) y)) ∙ q
    go false y =
        let w : 0 ≡ n = sym (get_or-eq_default d 0 (ltb-false j (length d) y)) ∙ ap (λ (c : List ℕ). get_or c j 0) (set_past d j x (ltb-false j (length d) y)) ∙ q in
        absurd (omega arith)

module _ (own : List ℕ) (ls : List (List ℕ)) (l : List ℕ) (us : List (List ℕ)) (ps : List ℕ) (j h x m : ℕ) (p : Line) (near far stores notes : List ℕ) (t : Nexts own us h near far stores)
    (n : j + 1 + length us ≡ length ps) (g : length ps ≡ length ls) (d : drop j ls ≡ l ∷ us) (e : p ≡ parse_of l) (u : x ≡ line_note own p ps j (length us) h near far stores) (one : m ≡ suc (length us)) where
  abbrev far₁ : List ℕ
  far₁ = alone_store own m x p far

  -- the line's own note
  own-may : (s : Store) → parse_of l ≡ line.Store s → may_send x ≡ true →
      Placed own s.reg.0 near × ((head_from us < length us) × ((read_below s.reg.0 us ≡ length us) × (x ≡ cond (ltb (head_from us) (far_from s.reg.0 us)) 4 7)))
  own-may s i z = line-may own l us ps j h near far stores t n s x (u ∙ ap (λ (k : Line). line_note own k ps j (length us) h near far stores) (e ∙ i)) z

  far-one : (v : ℕ) → x ≡ 7 → x ≡ cond (ltb (head_from us) (far_from v us)) 4 7 → far_from v us ≤ head_from us
  far-one v z q = go (ltb (head_from us) (far_from v us)) refl q
    where
      go : (b : Bool) → ltb (head_from us) (far_from v us) ≡ b → x ≡ cond b 4 7 → far_from v us ≤ head_from us
      go true y w = absurd (omega arith)
      go false y w = ltb-false (head_from us) (far_from v us) y

  far-two : (v : ℕ) → x ≡ 4 → x ≡ cond (ltb (head_from us) (far_from v us)) 4 7 → head_from us < far_from v us
  far-two v z q = go (ltb (head_from us) (far_from v us)) refl q
    where
      go : (b : Bool) → ltb (head_from us) (far_from v us) ≡ b → x ≡ cond b 4 7 → head_from us < far_from v us
      go true y w = ltb-true (head_from us) (far_from v us) y
      go false y w = absurd (omega arith)

  far-put : (v : ℕ) → Placed own v near → (b : Bool) → eqb x 7 && line_stores v l ≡ b → entry_of own v far₁ ≡ cond b m (entry_of own v far)
  unfolding line_stores
  far-put v k b z =
      alone-near own m x v p far (slot_kept own near far v t.wide k)
      ∙ ap (λ (w : Bool). cond w m (entry_of own v far)) (ap (λ (q : Line). eqb x 7 && stores_by v q) e ∙ z)

  at-line : (k : ℕ) → k ≡ j → parse_of (first_line (drop k ls)) ≡ parse_of l
  at-line k z = ap (λ (c : ℕ). parse_of (first_line (drop c ls))) z ∙ ap (λ (c : List (List ℕ)). parse_of (first_line c)) d

  own-stores : (s : Store) → parse_of l ≡ line.Store s → line_stores s.reg.0 l ≡ true
  unfolding line_stores
  own-stores s i = ap (stores_by s.reg.0) i ∙ eq-eqb s.reg.0 s.reg.0 refl

  own-one : (s : Store) → parse_of l ≡ line.Store s → x ≡ 7 → OneRow own ls us near far₁ j s.reg.0
  own-one s i z =
      let y = own-may s i (ap may_send z) in
      let c = (next-count s.reg.0 us y.1.0 y.1.1.0).0 (far-one s.reg.0 z y.1.1.1) in
      record {
        next = length us;
        row = omega (arith, n, g);
        among = omega arith;
        known = y.0;
        first = λ a. y.1.1.0;
        mine = λ a. far-put s.reg.0 y.0 true (and_both (eq-eqb x 7 z) (own-stores s i)) ∙ one;
        up = upward y.1.0 c;
      }

  own-two : (s : Store) → parse_of l ≡ line.Store s → x ≡ 4 → MoreRow ls us j s.reg.0
  own-two s i z =
      let y = own-may s i (ap may_send z) in
      let c = (next-count s.reg.0 us y.1.0 y.1.1.0).1 (far-two s.reg.0 z y.1.1.1) in
      record { next = length us; row = omega (arith, n, g); among = omega arith; up = upward y.1.0 c }

  -- no other line's store is that which a mark is of
  mine-on : (k v : ℕ) → (k ≡ j → ⊥) → (r : OneRow own ls us near far k v) → head_from us < r.next → entry_of own v far₁ ≡ suc r.next
  mine-on k v o r a = go (eqb x 7 && line_stores v l) refl
    where
      go : (b : Bool) → eqb x 7 && line_stores v l ≡ b → entry_of own v far₁ ≡ suc r.next
      go false z = far-put v r.known false z ∙ r.mine a
      go true z =
          stores_some v l (parse_of l) refl (and_right (eqb x 7) (line_stores v l) z) (λ s i w.
          let y = own-may s i (ap may_send (eqb-true x 7 (and_left (eqb x 7) (line_stores v l) z))) in
          let f : read_below v us ≡ length us = ap (λ (c : ℕ). read_below c us) (sym w) ∙ y.1.1.0 in
          absurd (o (omega (arith, f, r.first a, r.row, n, g))))

  -- the notes with the line's own, before its reads
  ones-put : Ones own ls us near far notes → Ones own ls us near far₁ (set notes j x)
  ones-put o = record {
    alone = λ k s i q. go-one k s i q (eqb k j) refl;
    more = λ k s i q. go-two k s i q (eqb k j) refl;
    marked = λ v k z. go-mark v k (eqb x 7 && line_stores v l) refl z;
  }
    where
      go-one : (k : ℕ) (s : Store) → parse_of (first_line (drop k ls)) ≡ line.Store s → get_or (set notes j x) k 0 ≡ 7 → (b : Bool) → eqb k j ≡ b → OneRow own ls us near far₁ k s.reg.0
      go-one k s i q true y =
          let z : k ≡ j = eqb-true k j y in
          subst (λ (c : ℕ). OneRow own ls us near far₁ c s.reg.0) (sym z)
          (own-one s (sym (at-line k z) ∙ i) (set_is notes j x 7 (omega arith) (ap (λ (c : ℕ). get_or (set notes j x) c 0) (sym z) ∙ q)))
      go-one k s i q false y =
          let r = o.alone k s i (sym (get_or-set_other notes j k x 0 (eqb-false k j y)) ∙ q) in
          record { next = r.next; row = r.row; among = r.among; known = r.known; first = r.first; mine = mine-on k s.reg.0 (eqb-false k j y) r; up = r.up }

      go-two : (k : ℕ) (s : Store) → parse_of (first_line (drop k ls)) ≡ line.Store s → get_or (set notes j x) k 0 ≡ 4 → (b : Bool) → eqb k j ≡ b → MoreRow ls us k s.reg.0
      go-two k s i q true y =
          let z : k ≡ j = eqb-true k j y in
          subst (λ (c : ℕ). MoreRow ls us c s.reg.0) (sym z)
          (own-two s (sym (at-line k z) ∙ i) (set_is notes j x 4 (omega arith) (ap (λ (c : ℕ). get_or (set notes j x) c 0) (sym z) ∙ q)))
      go-two k s i q false y = o.more k s i (sym (get_or-set_other notes j k x 0 (eqb-false k j y)) ∙ q)

      go-mark : (v : ℕ) → Placed own v near → (b : Bool) → eqb x 7 && line_stores v l ≡ b → entry_of own v near < entry_of own v far₁ →
          (entry_of own v far₁ ≤ suc (length us)) × (line_stores v (first_line (drop (length ls - entry_of own v far₁) ls)) ≡ true)
      go-mark v k true y z =
          let f = far-put v k true y in
          let i : length ls - m ≡ j = omega (arith, n, g, one) in
          rw f (omega (arith, one), ap (λ (c : ℕ). line_stores v (first_line (drop c ls))) i ∙ ap (λ (c : List (List ℕ)). line_stores v (first_line c)) d ∙ and_right (eqb x 7) (line_stores v l) y)
      go-mark v k false y z = let f = far-put v k false y in rw f (o.marked v k (omega (arith, f, z)))

  -- and with what it reads
  module _ (near' far' notes' : List ℕ) (y : (near', (far', notes')) ≡ read_runs own (length ps) h m (runs (text_of l p)) (near, (far₁, set notes j x))) (o : Ones own ls us near far₁ (set notes j x)) where
    notes-at : (k n : ℕ) → get_or notes' k 0 ≡ n → get_or (read_runs own (length ps) h m (runs (text_of l p)) (near, (far₁, set notes j x))).1.1 k 0 ≡ n
    notes-at k n q = ap (λ (b : Reads). get_or b.1.1 k 0) (sym y) ∙ q

    near-is : (v : ℕ) → Placed own v near → entry_of own v near' ≡ cond (ltb 0 (line_reads v l)) m (entry_of own v near)
    near-is v k = near-at own (length ps) l us p x h m near far stores (set notes j x) near' far' notes' e y t.wide v k

    far-is : (v : ℕ) → Placed own v near → entry_of own v far' ≡ cond (ltb 0 (line_reads v l)) (cond (ltb 1 (line_reads v l)) m (entry_of own v near)) (entry_of own v far₁)
    far-is v k = far_at own (length ps) l us p x h m near far stores (set notes j x) near' far' notes' e y t.wide v k

    near-len : length near' ≡ length near
    near-len = ln own (length ps) l us p x h m near far stores (set notes j x) near' far' notes' e y t.wide

    reads-is : (v : ℕ) → named v (runs (text_of l p)) ≡ line_reads v l
    reads-is v = reads_as own (length ps) l us p x h m near far stores (set notes j x) near' far' notes' e y t.wide v

    far-known : (v : ℕ) → Placed own v near → Placed own v far₁
    far-known v k = slot_kept own near far₁ v (alone-length own m x p far ∙ t.wide) k

    -- a value that is still read once is not read by the line
    silent : (k v : ℕ) (r : OneRow own ls us near far₁ k v) → get_or notes' k 0 ≡ 7 → head_from us < r.next → (b : Bool) → ltb 0 (line_reads v l) ≡ b → b ≡ false
    silent k v r q a true i =
        let w = t.head in
        let c = ltb-true 0 (line_reads v l) i in
        absurd
        (runs-take own (length ps) h r.next k (omega arith) (omega (arith, r.row, g)) m v (runs (text_of l p)) (near, (far₁, set notes j x)) r.known (far-known v r.known) (t.reads v r.known ∙ r.first a)
        (r.mine a) (omega (arith, reads-is v, c)) (notes-at k 7 q))
    silent k v r q a false i = refl

    header-off : (r : ℕ) → r ≤ length us → head_from (l ∷ us) < r → head_from us < r
    unfolding first_by
    header-off r a b = go (is_header l) b
      where
        go : (t : Bool) → cond t (suc (length us)) (head_from us) < r → head_from us < r
        go true z = absurd (omega arith)
        go false z = z

    one-row : (k v : ℕ) → OneRow own ls us near far₁ k v → get_or notes' k 0 ≡ 7 → OneRow own ls (l ∷ us) near' far' k v
    unfolding first_by
    one-row k v r q = record {
      next = r.next;
      row = r.row;
      among = omega (arith, r.among);
      known = slot_kept own near near' v near-len r.known;
      first = λ a.
          let b = header-off r.next r.among a in
          ap (λ (t : Bool). cond t (suc (length us)) (read_below v us)) (silent k v r q b (ltb 0 (line_reads v l)) refl) ∙ r.first b;
      mine = λ a.
          let b = header-off r.next r.among a in
          far-is v r.known ∙ ap (λ (t : Bool). cond t (cond (ltb 1 (line_reads v l)) m (entry_of own v near)) (entry_of own v far₁)) (silent k v r q b (ltb 0 (line_reads v l)) refl) ∙ r.mine b;
      up = up-on (λ (n : ℕ). n ≡ 1) v r.next l us r.among (λ a c. let z = ltb-false 0 (line_reads v l) (silent k v r q a (ltb 0 (line_reads v l)) refl) in omega arith) r.up;
    }

    more-row : (k : ℕ) (s : Store) → parse_of (first_line (drop k ls)) ≡ line.Store s → Took own (length ps) h k (runs (text_of l p)) (near, (far₁, set notes j x)) → MoreRow ls (l ∷ us) k s.reg.0
    more-row k s i (stood q) =
        let r = o.more k s i q in
        record { next = r.next; row = r.row; among = omega (arith, r.among); up = up-on (λ (n : ℕ). 2 ≤ n) s.reg.0 r.next l us r.among (λ a c. omega arith) r.up }
    more-row k s i (took v kn nm a b c) =
        let w = o.marked v kn b in
        let z : length ls - entry_of own v far₁ ≡ k = omega (arith, c, g) in
        let q : s.reg.0 ≡ v = stores-reg v (first_line (drop k ls)) s i (ap (λ (n : ℕ). line_stores v (first_line (drop n ls))) (sym z) ∙ w.1) in
        let hd = t.head in
        let rd = t.reads v kn in
        let some = read_some v us (omega arith) in
        let rs = reads-is v in
        subst (MoreRow ls (l ∷ us) k) (sym q)
        (record {
          next = entry_of own v far₁ - 1;
          row = omega (arith, b, c, g);
          among = omega (arith, w.0);
          up = up-new (λ (n : ℕ). 2 ≤ n) v (entry_of own v far₁ - 1) l us (omega (arith, w.0)) (omega (arith, a, b, hd)) (omega (arith, some, rs, nm));
        })

    mark-row : (v : ℕ) → Placed own v near → (b : Bool) → ltb 0 (line_reads v l) ≡ b → entry_of own v near' < entry_of own v far' →
        (entry_of own v far' ≤ suc (length (l ∷ us))) × (line_stores v (first_line (drop (length ls - entry_of own v far') ls)) ≡ true)
    mark-row v k true z w =
        let a = near-is v k ∙ ap (λ (b : Bool). cond b m (entry_of own v near)) z in
        let f = far-is v k ∙ ap (λ (b : Bool). cond b (cond (ltb 1 (line_reads v l)) m (entry_of own v near)) (entry_of own v far₁)) z in
        let c = go (ltb 1 (line_reads v l)) (omega (arith, t.reads v k, first-le (λ (l : List ℕ). ltb 0 (line_reads v l)) us, one)) in
        absurd (omega (arith, a, f, c, w))
      where
        go : (b : Bool) → entry_of own v near ≤ m → cond b m (entry_of own v near) ≤ m
        go true q = omega arith
        go false q = q
    mark-row v k false z w =
        let a = near-is v k ∙ ap (λ (b : Bool). cond b m (entry_of own v near)) z in
        let f = far-is v k ∙ ap (λ (b : Bool). cond b (cond (ltb 1 (line_reads v l)) m (entry_of own v near)) (entry_of own v far₁)) z in
        let q = o.marked v k (omega (arith, a, f, w)) in
        rw f (omega (arith, q.0), q.1)

    ones-reads : Ones own ls (l ∷ us) near' far' notes'
    ones-reads = record {
      alone = λ k s i q. one-row k s.reg.0 (o.alone k s i (runs-keep own (length ps) h m k (runs (text_of l p)) (near, (far₁, set notes j x)) (notes-at k 7 q))) q;
      more = λ k s i q.
          more-row k s i
          (runs-took own (length ps) h k m (runs (text_of l p)) (near, (far₁, set notes j x)) (alone-length own m x p far ∙ t.wide)
          (λ v z. omega (arith, t.reads v z, first-le (λ (l : List ℕ). ltb 0 (line_reads v l)) us, one)) (notes-at k 4 q));
      marked = λ v k z. mark-row v (slot_kept own near' near v (sym near-len) k) (ltb 0 (line_reads v l)) refl z;
    }

  ones-on : (near' far' notes' : List ℕ) → (near', (far', notes')) ≡ read_runs own (length ps) h m (runs (text_of l p)) (near, (far₁, set notes j x)) → Ones own ls us near far notes →
      Ones own ls (l ∷ us) near' far' notes'
  ones-on near' far' notes' y o = ones-reads near' far' notes' y (ones-put o)

-- ---- the loop: the lines from i on are in the tables, there are m of them, and h is the number of the first header

pub record NoteInv (own t ps near far stores notes : List ℕ) (i m h : ℕ) : Type 0 where
  pub i≤ : i ≤ length t
  pub front : Begins t i
  pub count : m ≡ length (lines_of (drop i t))
  pub nexts : Nexts own (lines_of (drop i t)) h near far stores
  pub noted : NotesOf (lines_of t) ps notes
  pub ones : Ones own (lines_of t) (lines_of (drop i t)) near far notes

pub note-start : (own t ps near far stores notes : List ℕ) → ends_in 10 t ≡ true → (length far ≡ length near) × (length far ≡ length stores) → AtMost 0 near → AtMost 0 far → AtMost 0 stores → AtMost 0 notes →
    NoteInv own t ps near far stores notes (length t) 0 0
note-start own t ps near far stores notes e w a b c n =
    let z = lines_end t (length t) (omega arith) in
    record {
      i≤ = omega arith;
      front = begins-lf t (length t) (eqb-true (get_or t (length t - 1) 0) 10 e);
      count = sym (ap (λ (ls : List (List ℕ)). length ls) z);
      nexts = subst (λ (ls : List (List ℕ)). Nexts own ls 0 near far stores) (sym z) (nexts-none own 0 near far stores w refl a b c);
      noted = notes-none (lines_of t) ps notes n;
      ones = ones_none own (lines_of t) (lines_of (drop (length t) t)) near far notes b n;
    }

module _ {own t ps near far stores notes : List ℕ} {i m h : ℕ} (v : NoteInv own t ps near far stores notes i m h) (k : 0 < i) where
  -- the line above ends at an LF
  pub note-lf : (i - 1 < length t) × (get_or t (i - 1) 0 ≡ 10)
  note-lf = (omega (arith, v.i≤), v.front (i - 1) (omega arith))

  module _ (a : ℕ) (b : StartOf t (i - 1) a) (n : length ps ≡ length (lines_of t)) where
    line-above : lines_of (drop a t) ≡ part a (i - 1) t ∷ lines_of (drop i t)
    line-above = line-back t i a k v.i≤ b

    above-count : m + 1 ≡ length (lines_of (drop a t))
    above-count = let z = ap (λ (ls : List (List ℕ)). length ls) line-above in let y = v.count in omega arith

    rows_above : (m + 1 ≤ length (lines_of t)) × (drop (length (lines_of t) - (m + 1)) (lines_of t) ≡ lines_of (drop a t))
    rows_above = rows_back t a (m + 1) (omega (arith, b.0, v.i≤)) b.1 above-count

    row-above : m + 1 ≤ length ps
    row-above = let z = rows_above.0 in omega arith

    pub note-on : (l : List ℕ) (p : Line) (j x : ℕ) (near' far' stores' notes₁ notes' : List ℕ) (h' : ℕ) → l ≡ part a (i - 1) t → p ≡ parse_of l → j ≡ length ps - (m + 1) →
        x ≡ line_note own p ps j m h near far stores → notes₁ ≡ set notes j x →
        (near', (far', notes')) ≡ read_runs own (length ps) h (m + 1) (runs (text_of l p)) (near, (alone_store own (m + 1) x p far, notes₁)) → stores' ≡ mark_store own (m + 1) p stores →
        h' ≡ cond (is_header l) (m + 1) h → NoteInv own t ps near' far' stores' notes' a (m + 1) h'
    note-on l p j x near' far' stores' notes₁ notes' h' e q w u g y s o =
        let ls : List (List ℕ) = lines_of (drop i t) in
        let rs : List (List ℕ) = runs (text_of l p) in
        let c : lines_of (drop a t) ≡ l ∷ ls = line-above ∙ ap (λ (b : List ℕ). b ∷ ls) (sym e) in
        let d : drop j (lines_of t) ≡ l ∷ ls = ap (λ (b : ℕ). drop b (lines_of t)) (w ∙ ap (λ (b : ℕ). b - (m + 1)) n) ∙ rows_above.1 ∙ c in
        let d' : drop (j + 1) (lines_of t) ≡ ls = sym (drop-drop 1 j (lines_of t)) ∙ ap (λ (us : List (List ℕ)). drop 1 us) d in
        let f = v.count in
        let z = row-above in
        let one : m + 1 ≡ suc (length ls) = omega arith in
        let r : j + 1 + length ls ≡ length ps = omega arith in
        let u' : x ≡ line_note own p ps j (length ls) h near far stores = u ∙ ap (λ (b : ℕ). line_note own p ps j b h near far stores) f in
        let y' : (near', (far', notes')) ≡ read_runs own (length ps) h (m + 1) rs (near, (alone_store own (m + 1) x p far, set notes j x)) =
        y ∙ ap (λ (b : List ℕ). read_runs own (length ps) h (m + 1) rs (near, (alone_store own (m + 1) x p far, b))) g in
        record {
          i≤ = omega (arith, b.0, v.i≤);
          front = b.1;
          count = above-count;
          nexts = rw c (nexts-on own (length ps) l ls p x h (m + 1) near far stores notes₁ near' far' notes' q y v.nexts.wide stores' h' one s o v.nexts);
          noted = subst (NotesOf (lines_of t) ps) (sym (ap (λ (b : Reads). b.1.1) y'))
              (notes-runs (lines_of t) ps own (length ps) h (m + 1) rs (near, (alone_store own (m + 1) x p far, set notes j x))
              (notes-put (lines_of t) ps notes j x (rw (d, d') (note-is own l ls ps j h near far stores v.nexts r p x q u')) v.noted));
          ones = rw c (ones-on own (lines_of t) l ls ps j h x (m + 1) p near far stores notes v.nexts r n d q u' one near' far' notes' y' v.ones);
        }

  module _ (n : length ps ≡ length (lines_of t)) where
    -- it has a row
    pub note-row : m + 1 ≤ length ps
    note-row = row-above (line_start t (i - 1)) (start_of t (i - 1) note-lf.0 note-lf.1) n

    pub note-count : (j : ℕ) → j ≡ length ps - (m + 1) → j + 1 + length (lines_of (drop (i - 1 + 1) t)) ≡ length (lines_of t)
    note-count j q =
        let e : i - 1 + 1 ≡ i = omega arith in
        let z : length (lines_of (drop (i - 1 + 1) t)) ≡ length (lines_of (drop i t)) = ap (λ (x : ℕ). length (lines_of (drop x t))) e in
        omega (arith, v.count, note-row)

pub ones-of : {own t ps near far stores notes : List ℕ} {i m h : ℕ} → NoteInv own t ps near far stores notes i m h → i ≤ 0 → OneOf (lines_of t) notes
ones-of {own} {t} {ps} {near} {far} {stores} {notes} {i} v z =
    once-of own (lines_of t) near far notes (subst (λ (j : ℕ). Ones own (lines_of t) (lines_of (drop j t)) near far notes) (let y : i ≡ 0 = omega arith in y) v.ones)

-- ---- the loop over the runs of a text that begin with `r`: it has come to the run at i; d₀ are the tables at its start, and d here

pub record ReadsInv (own : List ℕ) (c h m : ℕ) (s : List ℕ) (d₀ d : Reads) (i : ℕ) : Type 0 where
  pub long : length d.0 ≡ length d₀.0
  pub wide : length d.1.0 ≡ length d₀.1.0
  pub tall : length d.1.1 ≡ length d₀.1.1
  pub walk : RegWalk (read_runs own c h m) s d₀ d i

module _ (own : List ℕ) (c h m : ℕ) where
  -- what one run does
  abbrev read_step : List ℕ → Reads → Reads
  read_step r x = read_name own c h m (reg_of r) x

  reads-flush : (cur : List ℕ) (rs : List (List ℕ)) (d : Reads) → read_runs own c h m (flush cur ++ rs) d ≡ read_runs own c h m rs (read_step cur d)
  unfolding read_runs reg_of
  reads-flush [] rs d = refl
  reads-flush (x ∷ cur) rs d = refl

  -- one that begins with another byte names no register
  reads_other : (x : ℕ) (cur : List ℕ) (d : Reads) → eqb x 114 ≡ false → read_step (x ∷ cur) d ≡ d
  reads_other x cur d e = ap (λ (r : Option Register). read_name own c h m r d) (reg-first (x ∷ cur) (eqb-false x 114 e))

  reads-empty : (d : Reads) → read_runs own c h m [] d ≡ d
  unfolding read_runs
  reads-empty d = refl

  pub reads-start : (s : List ℕ) (d : Reads) (i : ℕ) → i ≡ 0 + reg_gap false (drop 0 s) → ReadsInv own c h m s d d i
  reads-start s d i q = record { long = refl; wide = refl; tall = refl; walk = regs-start (read_runs own c h m) read_step reads-flush reads_other s d i q }

  module _ {s : List ℕ} {d₀ d : Reads} {i : ℕ} (v : ReadsInv own c h m s d₀ d i) where
    module _ (l : i < length s) (e : ℕ) (p : e ≡ i + run_len (drop i s)) (k : ℕ) (q : k ≡ e + reg_gap false (drop e s)) where
      pub reads-less : i < k
      reads-less = regs-less (read_runs own c h m) read_step reads-flush reads_other v.walk l e p k q

      pub reads_on : (w : List ℕ) → w ≡ part i e s → (d' : Reads) → d' ≡ read_step w d → ReadsInv own c h m s d₀ d' k
      reads_on w y d' z = record {
        long = ap (λ (t : Reads). length t.0) z ∙ name-length own m (reg_of w) d.0 ∙ v.long;
        wide = ap (λ (t : Reads). length t.1.0) z ∙ far-length own (reg_of w) d.0 d.1.0 ∙ v.wide;
        tall = ap (λ (t : Reads). length t.1.1) z ∙ notes-length own c h (reg_of w) d.0 d.1.0 d.1.1 ∙ v.tall;
        walk = regs-on (read_runs own c h m) read_step reads-flush reads_other v.walk l e p k q w y z;
      }

    pub reads_end : length s ≤ i → d ≡ read_runs own c h m (runs s) d₀
    reads_end l = regs-end (read_runs own c h m) read_step reads-flush reads_other v.walk reads-empty l

-- a line keeps the lengths of the tables
pub note-lengths : (own : List ℕ) (c h m x : ℕ) (near far stores notes : List ℕ) (p : Line) (l : List ℕ) {near' far' stores' notes' : List ℕ} →
    (near', (far', notes')) ≡ read_runs own c h m (runs (text_of l p)) (near, (alone_store own m x p far, notes)) → stores' ≡ mark_store own m p stores →
    (length near' ≡ length near) × ((length far' ≡ length far) × ((length stores' ≡ length stores) × (length notes' ≡ length notes)))
note-lengths own c h m x near far stores notes p l y s =
    let z = runs-lengths own c h m (runs (text_of l p)) (near, (alone_store own m x p far, notes)) in
    (ap (λ (d : Reads). length d.0) y ∙ z.0, (ap (λ (d : Reads). length d.1.0) y ∙ z.1.0 ∙ alone-length own m x p far, (ap (λ (d : List ℕ). length d) s ∙ store_length own m p stores, ap (λ (d : Reads). length d.1.1) y ∙ z.1.1)))

-- ---- the code: a read takes back what a note says

module _ (c f : ℕ) (d : List ℕ) where
  pub back-past : c < f → d ≡ take_back c f d
  back-past k = rw (lt-ltb c f k)

  module _ (k : f ≤ c) (x : ℕ) (q : x ≡ get_or d (c - f) 0) where
    pub back-other : (x ≡ 7 → ⊥) → d ≡ take_back c f d
    back-other n = rw (le-ltb c f k, sym q, ne_eqb x 7 n)

    pub back-seven : x ≡ 7 → set d (c - f) 4 ≡ take_back c f d
    back-seven e = rw (le-ltb c f k, sym q, eq-eqb x 7 e)

-- ---- the code: a register that has the place i

module _ (own : List ℕ) (v : ℕ) (near far : List ℕ) (i : ℕ) (e : i ≡ slot_of (length near) own v) (w : length far ≡ length near) where
  far-slot : slot_of (length far) own v ≡ i
  far-slot = ap (λ (n : ℕ). slot_of n own v) w ∙ sym e

  -- it has none
  module _ (k : length near ≤ i) where
    pub read_past : (m c h : ℕ) (d : List ℕ) → (near ≡ with_entry own v m near) × ((far ≡ with_entry own v (entry_of own v near) far) × (d ≡ back_by c h (entry_of own v near) (entry_of own v far) d))
    read_past m c h d =
        let z : entry_of own v near ≡ 0 = get_or-eq_default near 0 (omega (arith, e)) in
        (set_past near (slot_of (length near) own v) m (omega (arith, e)), (set_past far (slot_of (length far) own v) (entry_of own v near) (omega (arith, far-slot, w)), rw (z, le-ltb h 0 (omega arith))))

    pub write-past : (m x : ℕ) → (far ≡ alone_in own m x v far) × (near ≡ with_entry own v m near)
    write-past m x = (go (eqb x 7), set_past near (slot_of (length near) own v) m (omega (arith, e)))
      where
        go : (b : Bool) → far ≡ cond b (with_entry own v m far) far
        go true = set_past far (slot_of (length far) own v) m (omega (arith, far-slot, w))
        go false = refl

  pub read-in : (m : ℕ) → (set near i m ≡ with_entry own v m near) × (set far i (get_or near i 0) ≡ with_entry own v (entry_of own v near) far)
  read-in m = (ap (λ (j : ℕ). set near j m) e, rw (far-slot, sym e))

  -- a read that takes something back, and one that does not
  pub back_on : (c h : ℕ) (d : List ℕ) (b : Bool) → ltb h (get_or near i 0) && ltb (get_or near i 0) (get_or far i 0) ≡ b →
      cond b (take_back c (get_or far i 0) d) d ≡ back_by c h (entry_of own v near) (entry_of own v far) d
  back_on c h d b z = rw (far-slot, sym e, z)

  pub write-in : (m x : ℕ) (b : Bool) → eqb x 7 ≡ b → cond b (set far i m) far ≡ alone_in own m x v far
  write-in m x b z = rw (far-slot, z)

-- what a line reads, as its text is at hand
pub line-reads : (own l t near far f notes : List ℕ) (c h m x : ℕ) (p : Line) (d : Reads) → t ≡ text_of l p → f ≡ alone_store own m x p far → d ≡ read_runs own c h m (runs t) (near, (f, notes)) →
    d ≡ read_runs own c h m (runs (text_of l p)) (near, (alone_store own m x p far, notes))
line-reads own l t near far f notes c h m x p d q g y =
    y ∙ ap (λ (z : List ℕ). read_runs own c h m (runs z) (near, (f, notes))) q ∙ ap (λ (z : List ℕ). read_runs own c h m (runs (text_of l p)) (near, (z, notes))) g

-- tables of one length that are wiped
pub wiped-lengths : (near far stores near' far' stores' : List ℕ) → near' ≡ replicate (length near) 0 → far' ≡ replicate (length far) 0 → stores' ≡ replicate (length stores) 0 →
    (length far ≡ length near) × (length far ≡ length stores) → (length far' ≡ length near') × (length far' ≡ length stores')
wiped-lengths near far stores near' far' stores' a b c w =
    (zeros-long (length far) b ∙ w.0 ∙ sym (zeros-long (length near) a), zeros-long (length far) b ∙ w.1 ∙ sym (zeros-long (length stores) c))
