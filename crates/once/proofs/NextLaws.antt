-- Laws of the numbers of the next lines that use a register, and of the notes that they give. Assumes nothing.
use Prim.Native.Nat.{ℕ, zero, suc, ◌+◌, ◌-◌, ◌≤◌, ◌<◌}
use mathlib.Core.Path.{◌≡◌, refl, sym, ap, subst, ◌∙◌}
use mathlib.Core.Bool.{Bool, true, false, cond, not, ◌&&◌, ◌||◌}
use mathlib.Core.List.{List, [], ◌∷◌}
use native.Mathlib.Omega.{arith}
use borrow.Author.Tests.{lt-ltb, le-ltb, ltb-true, ltb-false, eq-eqb, ne_eqb, eqb-true, eqb-false}
use lib.Dec.{eqb, ltb}
use lib.ListN.{length, drop, get_or, length-drop}
use lib.Seq.{get_or-drop}
use Rattle.lines.proofs.Tests.{no, and-false, and_left}
use Rattle.parse.specs.Parse.{parse_of}
use Rattle.parse.specs.declared.Store.{Store}
use Rattle.parse.specs.declared.Line.{Line}
use Rattle.parse.specs.declared.Line.TheVariants as line
use Rattle.place.specs.Region.{is_header}
use Rattle.reading.specs.Uses.{line_reads, line_stores}
use Rattle.once.specs.Scratch.{live_below}
use Rattle.once.specs.Once.{none, read, write, dead_by, later_read}
use Rattle.once.specs.Inner.Tables.{next_in}
use Rattle.slots.specs.Inner.Slots.{slot_of, entry_of}
use Rattle.slots.proofs.SlotLaws.{Placed}
use Rattle.decls.specs.Inner.Firsts.{first_by, read_below, store_from, head_from}
use Rattle.decls.proofs.SeenLaws.{first-le}
use Rattle.once.specs.Inner.Noted.{far_from, same_path, note_by, store_note, line_note, read_next, sent_to, may_send, DropIs, SendIs, NoteIs}

above : (r s : ℕ) → r ≤ s → (s ≡ r → ⊥) → r < s
above r s h n = go (ltb r s) refl
  where
    go : (t : Bool) → ltb r s ≡ t → r < s
    go true e = ltb-true r s e
    go false e = let k = ltb-false r s e in absurd (n (omega arith))

-- ---- a read before the next store

pub later-from : (v : ℕ) (ls : List (List ℕ)) → later_read v ls ≡ ltb (store_from v ls) (read_below v ls)
unfolding later_read first_by
later-from v [] = refl
later-from v (l ∷ ls) = go (later-from v ls) (first-le (λ (l : List ℕ). line_stores v l) ls) (first-le (λ (l : List ℕ). ltb 0 (line_reads v l)) ls) (line_stores v l) (ltb 0 (line_reads v l))
  where
    go : later_read v ls ≡ ltb (store_from v ls) (read_below v ls) → store_from v ls ≤ length ls → read_below v ls ≤ length ls → (a b : Bool) →
        not a && (b || later_read v ls) ≡ ltb (cond a (suc (length ls)) (store_from v ls)) (cond b (suc (length ls)) (read_below v ls))
    go h x y true true = sym (le-ltb (suc (length ls)) (suc (length ls)) (omega arith))
    go h x y true false = sym (le-ltb (suc (length ls)) (read_below v ls) (omega arith))
    go h x y false true = sym (lt-ltb (store_from v ls) (suc (length ls)) (omega arith))
    go h x y false false = h

live-from : (v : ℕ) (ls : List (List ℕ)) → live_below v ls ≡ ltb (store_from v ls) (read_below v ls) && ltb (head_from ls) (read_below v ls)
unfolding live_below first_by
live-from v [] = refl
live-from v (l ∷ ls) =
    go (live-from v ls) (first-le (λ (l : List ℕ). line_stores v l) ls) (first-le (λ (l : List ℕ). ltb 0 (line_reads v l)) ls) (first-le (λ (l : List ℕ). is_header l) ls)
    (line_stores v l) (ltb 0 (line_reads v l)) (is_header l)
  where
    go : live_below v ls ≡ ltb (store_from v ls) (read_below v ls) && ltb (head_from ls) (read_below v ls) → store_from v ls ≤ length ls → read_below v ls ≤ length ls → head_from ls ≤ length ls → (a b c : Bool) →
        cond c false (not a && (b || live_below v ls))
        ≡ ltb (cond a (suc (length ls)) (store_from v ls)) (cond b (suc (length ls)) (read_below v ls)) && ltb (cond c (suc (length ls)) (head_from ls)) (cond b (suc (length ls)) (read_below v ls))
    go h x y z a true true = sym (ap (λ (t : Bool). ltb (cond a (suc (length ls)) (store_from v ls)) (suc (length ls)) && t) (le-ltb (suc (length ls)) (suc (length ls)) (omega arith)) ∙ and-false (ltb (cond a (suc (length ls)) (store_from v ls)) (suc (length ls))))
    go h x y z a false true = sym (ap (λ (t : Bool). ltb (cond a (suc (length ls)) (store_from v ls)) (read_below v ls) && t) (le-ltb (suc (length ls)) (read_below v ls) (omega arith)) ∙ and-false (ltb (cond a (suc (length ls)) (store_from v ls)) (read_below v ls)))
    go h x y z true true false = rw (le-ltb (suc (length ls)) (suc (length ls)) (omega arith))
    go h x y z true false false = rw (le-ltb (suc (length ls)) (read_below v ls) (omega arith))
    go h x y z false true false = rw (lt-ltb (store_from v ls) (suc (length ls)) (omega arith), lt-ltb (head_from ls) (suc (length ls)) (omega arith))
    go h x y z false false false = h

-- ---- the next use in the region

next-reads : (v : ℕ) (ls : List (List ℕ)) (ps : List ℕ) → length ls ≤ length ps → head_from ls < read_below v ls → store_from v ls ≤ read_below v ls → next_in v ls ps ≡ read
unfolding next_in first_by
next-reads v [] ps n h k = absurd (omega arith)
next-reads v (l ∷ ls) [] n h k = absurd (omega arith)
next-reads v (l ∷ ls) (p ∷ ps) n h k =
    go (λ h k. next-reads v ls ps (omega arith) h k) (first-le (λ (l : List ℕ). line_stores v l) ls) (first-le (λ (l : List ℕ). ltb 0 (line_reads v l)) ls) (first-le (λ (l : List ℕ). is_header l) ls)
    (line_stores v l) (ltb 0 (line_reads v l)) (is_header l) h k
  where
    go : (head_from ls < read_below v ls → store_from v ls ≤ read_below v ls → next_in v ls ps ≡ read) → store_from v ls ≤ length ls → read_below v ls ≤ length ls → head_from ls ≤ length ls → (a b c : Bool) →
        cond c (suc (length ls)) (head_from ls) < cond b (suc (length ls)) (read_below v ls) → cond a (suc (length ls)) (store_from v ls) ≤ cond b (suc (length ls)) (read_below v ls) →
        cond c none (cond b read (cond a (write p) (next_in v ls ps))) ≡ read
    go f x y z a true true h k = absurd (omega arith)
    go f x y z a false true h k = absurd (omega arith)
    go f x y z a true false h k = refl
    go f x y z true false false h k = absurd (omega arith)
    go f x y z false false false h k = f h k

next-stores : (v : ℕ) (ls : List (List ℕ)) (ps : List ℕ) → length ls ≤ length ps → head_from ls < store_from v ls → read_below v ls < store_from v ls →
    next_in v ls ps ≡ write (get_or ps (length ls - store_from v ls) 0)
unfolding next_in first_by
next-stores v [] ps n h k = absurd (omega arith)
next-stores v (l ∷ ls) [] n h k = absurd (omega arith)
next-stores v (l ∷ ls) (p ∷ ps) n h k =
    go (λ h k. next-stores v ls ps (omega arith) h k) (first-le (λ (l : List ℕ). line_stores v l) ls) (first-le (λ (l : List ℕ). ltb 0 (line_reads v l)) ls) (first-le (λ (l : List ℕ). is_header l) ls)
    (line_stores v l) (ltb 0 (line_reads v l)) (is_header l) h k
  where
    go : (head_from ls < store_from v ls → read_below v ls < store_from v ls → next_in v ls ps ≡ write (get_or ps (length ls - store_from v ls) 0)) → store_from v ls ≤ length ls → read_below v ls ≤ length ls → head_from ls ≤ length ls →
        (a b c : Bool) → cond c (suc (length ls)) (head_from ls) < cond a (suc (length ls)) (store_from v ls) → cond b (suc (length ls)) (read_below v ls) < cond a (suc (length ls)) (store_from v ls) →
        cond c none (cond b read (cond a (write p) (next_in v ls ps))) ≡ write (get_or (p ∷ ps) (suc (length ls) - cond a (suc (length ls)) (store_from v ls)) 0)
    go f x y z true b true h k = absurd (omega arith)
    go f x y z false b true h k = absurd (omega arith)
    go f x y z true true false h k = absurd (omega arith)
    go f x y z false true false h k = absurd (omega arith)
    go f x y z true false false h k = let q : suc (length ls) - suc (length ls) ≡ 0 = omega arith in ap (λ (i : ℕ). write (get_or (p ∷ ps) i 0)) (sym q)
    go f x y z false false false h k =
        let q : suc (length ls) - store_from v ls ≡ suc (length ls - store_from v ls) = omega arith in f h k ∙ ap (λ (i : ℕ). write (get_or (p ∷ ps) i 0)) (sym q)

next-none : (v : ℕ) (ls : List (List ℕ)) (ps : List ℕ) → read_below v ls ≤ head_from ls → store_from v ls ≤ head_from ls → next_in v ls ps ≡ none
unfolding next_in first_by
next-none v [] ps h k = refl
next-none v (l ∷ ls) [] h k = refl
next-none v (l ∷ ls) (p ∷ ps) h k =
    go (λ h k. next-none v ls ps h k) (first-le (λ (l : List ℕ). is_header l) ls) (line_stores v l) (ltb 0 (line_reads v l)) (is_header l) h k
  where
    go : (read_below v ls ≤ head_from ls → store_from v ls ≤ head_from ls → next_in v ls ps ≡ none) → head_from ls ≤ length ls → (a b c : Bool) →
        cond b (suc (length ls)) (read_below v ls) ≤ cond c (suc (length ls)) (head_from ls) → cond a (suc (length ls)) (store_from v ls) ≤ cond c (suc (length ls)) (head_from ls) →
        cond c none (cond b read (cond a (write p) (next_in v ls ps))) ≡ none
    go f z a b true h k = refl
    go f z a true false h k = absurd (omega arith)
    go f z true false false h k = absurd (omega arith)
    go f z false false false h k = f h k

-- ---- the next line reads it, and no other

one-as : (n : ℕ) → eqb n 1 ≡ ltb 0 n && not (ltb 1 n)
one-as zero = refl
one-as (suc zero) = refl
one-as (suc (suc n)) =
    rw (ne_eqb (suc (suc n)) 1 (λ (q : suc (suc n) ≡ 1). omega arith), lt-ltb 0 (suc (suc n)) (omega arith), lt-ltb 1 (suc (suc n)) (omega arith))

sent-from : (v : ℕ) (ls : List (List ℕ)) → sent_to v ls ≡ eqb (read_below v ls) (length ls) && (ltb (store_from v ls) (read_below v ls) && not (ltb (store_from v ls) (far_from v ls)))
unfolding sent_to first_by far_from
sent-from v [] = refl
sent-from v (l ∷ ls) =
    ap (λ (t : Bool). not (line_stores v l) && (t && not (later_read v ls))) (one-as (line_reads v l))
    ∙ go (later-from v ls) (first-le (λ (l : List ℕ). line_stores v l) ls) (first-le (λ (l : List ℕ). ltb 0 (line_reads v l)) ls) (line_stores v l) (ltb 0 (line_reads v l)) (ltb 1 (line_reads v l))
  where
    go : later_read v ls ≡ ltb (store_from v ls) (read_below v ls) → store_from v ls ≤ length ls → read_below v ls ≤ length ls → (a b c : Bool) →
        not a && ((b && not c) && not (later_read v ls))
        ≡ eqb (cond b (suc (length ls)) (read_below v ls)) (suc (length ls))
        && (ltb (cond a (suc (length ls)) (store_from v ls)) (cond b (suc (length ls)) (read_below v ls))
        && not (ltb (cond a (suc (length ls)) (store_from v ls)) (cond b (cond c (suc (length ls)) (read_below v ls)) (far_from v ls))))
    go h x y a false c = rw (ne_eqb (read_below v ls) (suc (length ls)) (λ (q : read_below v ls ≡ suc (length ls)). omega arith)) (and-false (not a))
    go h x y true true c = rw (le-ltb (suc (length ls)) (suc (length ls)) (omega arith)) (sym (and-false (eqb (suc (length ls)) (suc (length ls)))))
    go h x y false true true = rw (eq-eqb (suc (length ls)) (suc (length ls)) refl, lt-ltb (store_from v ls) (suc (length ls)) (omega arith))
    go h x y false true false = rw (eq-eqb (suc (length ls)) (suc (length ls)) refl, lt-ltb (store_from v ls) (suc (length ls)) (omega arith), h)

-- ---- the note of a store

drop-nothing : (v p : ℕ) (ls : List (List ℕ)) (ps : List ℕ) → DropIs v p ls ps 0
drop-nothing v p ls ps = record { live = λ q. no q; kept = λ q. absurd (omega arith); dead = λ q. absurd (omega arith) }

send-nothing : (v : ℕ) (ls : List (List ℕ)) → SendIs v ls 0
send-nothing v ls = record { sent = λ q. no q; stays = λ q. no q }

module _ (v p : ℕ) (ls : List (List ℕ)) (ps : List ℕ) (n : length ls ≤ length ps) where
  -- by the tests of the note
  live-as : (a b : Bool) → ltb (store_from v ls) (read_below v ls) ≡ a → ltb (head_from ls) (read_below v ls) ≡ b → live_below v ls ≡ a && b
  live-as a b x y = live-from v ls ∙ rw (x, y)

  drop-live : (live_below v ls ≡ true) × (dead_by p (next_in v ls ps) ≡ false) → (t g : Bool) → DropIs v p ls ps (cond t (cond g 4 7) 3)
  drop-live h true true = record { live = λ q. h; kept = λ q. absurd (omega arith); dead = λ q. absurd (omega arith) }
  drop-live h true false = record { live = λ q. h; kept = λ q. absurd (omega arith); dead = λ q. absurd (omega arith) }
  drop-live h false g = record { live = λ q. h; kept = λ q. absurd (omega arith); dead = λ q. absurd (omega arith) }

  drop-kept : (live_below v ls ≡ false) × (dead_by p (next_in v ls ps) ≡ false) → DropIs v p ls ps 5
  drop-kept h = record { live = λ q. no q; kept = λ q. h; dead = λ q. absurd (omega arith) }

  drop-dead : (live_below v ls ≡ false) × (dead_by p (next_in v ls ps) ≡ true) → DropIs v p ls ps 6
  drop-dead h = record { live = λ q. no q; kept = λ q. absurd (omega arith); dead = λ q. h }

  module _ (same : Bool) (w : head_from ls < store_from v ls → same ≡ eqb p (get_or ps (length ls - store_from v ls) 0)) where
    -- a line stores it next
    drop-stored : head_from ls < store_from v ls → read_below v ls < store_from v ls → DropIs v p ls ps (cond same 6 5)
    drop-stored h k = go same (sym (w h))
      where
        d : dead_by p (next_in v ls ps) ≡ eqb p (get_or ps (length ls - store_from v ls) 0)
        d = ap (dead_by p) (next-stores v ls ps n h k)

        l : live_below v ls ≡ false
        l = live-as false (ltb (head_from ls) (read_below v ls)) (le-ltb (store_from v ls) (read_below v ls) (omega arith)) refl

        go : (t : Bool) → eqb p (get_or ps (length ls - store_from v ls) 0) ≡ t → DropIs v p ls ps (cond t 6 5)
        go true q = drop-dead (l, d ∙ q)
        go false q = drop-kept (l, d ∙ q)

    drop-by : DropIs v p ls ps (note_by (read_below v ls) (far_from v ls) (store_from v ls) (head_from ls) (length ls) same)
    drop-by = go (ltb (head_from ls) (read_below v ls)) refl (ltb (store_from v ls) (read_below v ls)) refl (eqb (store_from v ls) (read_below v ls)) refl (ltb (head_from ls) (store_from v ls)) refl
      where
        none_left : read_below v ls ≤ head_from ls → store_from v ls ≤ head_from ls → (t : Bool) → DropIs v p ls ps (cond t 0 6)
        none_left h k true = drop-nothing v p ls ps
        none_left h k false = drop-dead (live-as (ltb (store_from v ls) (read_below v ls)) false refl (le-ltb (head_from ls) (read_below v ls) h) ∙ and-false (ltb (store_from v ls) (read_below v ls)), ap (dead_by p) (next-none v ls ps h k))

        go : (a : Bool) → ltb (head_from ls) (read_below v ls) ≡ a → (b : Bool) → ltb (store_from v ls) (read_below v ls) ≡ b → (c : Bool) → eqb (store_from v ls) (read_below v ls) ≡ c →
            (d : Bool) → ltb (head_from ls) (store_from v ls) ≡ d →
            DropIs v p ls ps (cond (a && b) (cond (eqb (read_below v ls) (length ls) && not (ltb (store_from v ls) (far_from v ls))) (cond (ltb (head_from ls) (far_from v ls)) 4 7) 3) (cond (a && c) 5 (cond d (cond same 6 5) (cond (eqb (read_below v ls) (length ls)) 0 6))))
        go true x true y c z d u =
            let h = ltb-true (head_from ls) (read_below v ls) x in
            let k = ltb-true (store_from v ls) (read_below v ls) y in
            drop-live (live-as true true y x, ap (dead_by p) (next-reads v ls ps n h (omega arith))) (eqb (read_below v ls) (length ls) && not (ltb (store_from v ls) (far_from v ls))) (ltb (head_from ls) (far_from v ls))
        go true x false y true z d u =
            let h = ltb-true (head_from ls) (read_below v ls) x in
            let k = eqb-true (store_from v ls) (read_below v ls) z in
            drop-kept (live-as false true y x, ap (dead_by p) (next-reads v ls ps n h (omega arith)))
        go true x false y false z true u =
            let h = ltb-true (head_from ls) (store_from v ls) u in
            let k = ltb-false (store_from v ls) (read_below v ls) y in
            let j = eqb-false (store_from v ls) (read_below v ls) z in
            drop-stored h (above (read_below v ls) (store_from v ls) k j)
        go true x false y false z false u =
            let h = ltb-true (head_from ls) (read_below v ls) x in
            let k = ltb-false (store_from v ls) (read_below v ls) y in
            let j = ltb-false (head_from ls) (store_from v ls) u in
            absurd (omega arith)
        go false x b y c z true u =
            let h = ltb-true (head_from ls) (store_from v ls) u in
            let k = ltb-false (head_from ls) (read_below v ls) x in
            drop-stored h (omega arith)
        go false x b y c z false u = none_left (ltb-false (head_from ls) (read_below v ls) x) (ltb-false (head_from ls) (store_from v ls) u) (eqb (read_below v ls) (length ls))

module _ (v : ℕ) (ls : List (List ℕ)) where
  -- by the tests of the note
  sent-as : (a b c : Bool) → eqb (read_below v ls) (length ls) ≡ a → ltb (store_from v ls) (read_below v ls) ≡ b → ltb (store_from v ls) (far_from v ls) ≡ c → sent_to v ls ≡ a && (b && not c)
  sent-as a b c x y z = sent-from v ls ∙ rw (x, y, z)

  send-not : sent_to v ls ≡ false → (m : ℕ) → may_send m ≡ false → SendIs v ls m
  send-not h m n = record { sent = λ q. no (sym n ∙ q); stays = λ q. h }

  send-next : (t g : Bool) → sent_to v ls ≡ t → SendIs v ls (cond t (cond g 4 7) 3)
  send-next true true h = record { sent = λ q. h; stays = λ q. no q }
  send-next true false h = record { sent = λ q. h; stays = λ q. no q }
  send-next false g h = send-not h 3 refl

  send_by : (same : Bool) → SendIs v ls (note_by (read_below v ls) (far_from v ls) (store_from v ls) (head_from ls) (length ls) same)
  send_by same = go (ltb (head_from ls) (read_below v ls)) refl (ltb (store_from v ls) (read_below v ls)) refl (eqb (store_from v ls) (read_below v ls)) (ltb (head_from ls) (store_from v ls)) refl
    where
      unread : ltb (store_from v ls) (read_below v ls) ≡ false → sent_to v ls ≡ false
      unread y = sent-as (eqb (read_below v ls) (length ls)) false (ltb (store_from v ls) (far_from v ls)) refl y refl ∙ and-false (eqb (read_below v ls) (length ls))

      stored : sent_to v ls ≡ false → (t : Bool) → SendIs v ls (cond t 6 5)
      stored h true = send-not h 6 refl
      stored h false = send-not h 5 refl

      unused : (t : Bool) → eqb (read_below v ls) (length ls) ≡ t → SendIs v ls (cond t 0 6)
      unused true x = send-nothing v ls
      unused false x = send-not (sent-as false (ltb (store_from v ls) (read_below v ls)) (ltb (store_from v ls) (far_from v ls)) x refl refl) 6 refl

      go : (a : Bool) → ltb (head_from ls) (read_below v ls) ≡ a → (b : Bool) → ltb (store_from v ls) (read_below v ls) ≡ b → (c d : Bool) → ltb (head_from ls) (store_from v ls) ≡ d →
          SendIs v ls (cond (a && b) (cond (eqb (read_below v ls) (length ls) && not (ltb (store_from v ls) (far_from v ls))) (cond (ltb (head_from ls) (far_from v ls)) 4 7) 3) (cond (a && c) 5 (cond d (cond same 6 5) (cond (eqb (read_below v ls) (length ls)) 0 6))))
      go true x true y c d u = send-next (eqb (read_below v ls) (length ls) && not (ltb (store_from v ls) (far_from v ls))) (ltb (head_from ls) (far_from v ls)) (sent-as (eqb (read_below v ls) (length ls)) true (ltb (store_from v ls) (far_from v ls)) refl y refl)
      go true x false y true d u = send-not (unread y) 5 refl
      go true x false y false true u = stored (unread y) same
      go true x false y false false u = unused (eqb (read_below v ls) (length ls)) refl
      go false x b y c true u =
          let h = ltb-true (head_from ls) (store_from v ls) u in
          let k = ltb-false (head_from ls) (read_below v ls) x in
          stored (unread (le-ltb (store_from v ls) (read_below v ls) (omega arith))) same
      go false x b y c false u = unused (eqb (read_below v ls) (length ls)) refl

-- by its tests
abbrev note_of : Bool → Bool → Bool → Bool → Bool → Bool → Bool → ℕ
note_of a b k c d e g = cond a (cond b (cond k 4 7) 3) (cond c 5 (cond d (cond e 6 5) (cond g 0 6)))

-- it says nothing of what a line is
store-kind : (r f s h m : ℕ) (same : Bool) → (note_by r f s h m same ≡ 1 → ⊥) × (note_by r f s h m same ≡ 2 → ⊥)
store-kind r f s h m same = go (ltb h r && ltb s r) (eqb r m && not (ltb s f)) (ltb h f) (ltb h r && eqb s r) (ltb h s) same (eqb r m)
  where
    go : (a b k c d e g : Bool) → (note_of a b k c d e g ≡ 1 → ⊥) × (note_of a b k c d e g ≡ 2 → ⊥)
    go true true true c d e g = (λ q. omega arith, λ q. omega arith)
    go true true false c d e g = (λ q. omega arith, λ q. omega arith)
    go true false k c d e g = (λ q. omega arith, λ q. omega arith)
    go false b k true d e g = (λ q. omega arith, λ q. omega arith)
    go false b k false true true g = (λ q. omega arith, λ q. omega arith)
    go false b k false true false g = (λ q. omega arith, λ q. omega arith)
    go false b k false false e true = (λ q. omega arith, λ q. omega arith)
    go false b k false false e false = (λ q. omega arith, λ q. omega arith)

-- where its value may go into the next line
note-may : (r f s h m : ℕ) (same : Bool) → may_send (note_by r f s h m same) ≡ true → (h < r) × ((r ≡ m) × (note_by r f s h m same ≡ cond (ltb h f) 4 7))
note-may r f s h m same q = go (ltb h r && ltb s r) refl (eqb r m && not (ltb s f)) refl (ltb h f) (ltb h r && eqb s r) (ltb h s) same (eqb r m) q
  where
    go : (a : Bool) → ltb h r && ltb s r ≡ a → (b : Bool) → eqb r m && not (ltb s f) ≡ b → (k c d e g : Bool) → may_send (note_of a b k c d e g) ≡ true →
        (h < r) × ((r ≡ m) × (note_of a b k c d e g ≡ cond k 4 7))
    go true x true y k c d e g q = (ltb-true h r (and_left (ltb h r) (ltb s r) x), (eqb-true r m (and_left (eqb r m) (not (ltb s f)) y), refl))
    go true x false y k c d e g q = no q
    go false x b y k true d e g q = no q
    go false x b y k false true true g q = no q
    go false x b y k false true false g q = no q
    go false x b y k false false e true q = no q
    go false x b y k false false e false q = no q

-- the second read counts where the register is read before it is stored
note-far : (r f f' s h m : ℕ) (same : Bool) → (s < r → f ≡ f') → note_by r f s h m same ≡ note_by r f' s h m same
note-far r f f' s h m same e = go (ltb s r) refl
  where
    go : (b : Bool) → ltb s r ≡ b → note_by r f s h m same ≡ note_by r f' s h m same
    go true x = ap (λ (i : ℕ). note_by r i s h m same) (e (ltb-true s r x))
    go false x = rw (x, and-false (ltb h r))

unfoldable pub stored-by : Line → Bool
stored-by line.Decl = false
stored-by (line.Store s) = true
stored-by line.Other = false

reg-by : Line → ℕ
reg-by line.Decl = 0
reg-by (line.Store s) = s.reg.0
reg-by line.Other = 0

-- ---- tables of these numbers

-- the tables near, far and stores have those of the lines ls, and h is that of the first header
pub record Nexts (own : List ℕ) (ls : List (List ℕ)) (h : ℕ) (near far stores : List ℕ) : Type 0 where
  pub wide : length far ≡ length near
  pub tall : length far ≡ length stores
  pub head : h ≡ head_from ls
  pub reads : (v : ℕ) → Placed own v near → entry_of own v near ≡ read_below v ls
  pub again : (v : ℕ) → Placed own v near → store_from v ls < read_below v ls → entry_of own v far ≡ far_from v ls
  pub stored : (v : ℕ) → Placed own v near → entry_of own v stores ≡ store_from v ls

module _ (own l : List ℕ) (ls : List (List ℕ)) (ps : List ℕ) (k h : ℕ) (near far stores : List ℕ) (t : Nexts own ls h near far stores) (n : k + 1 + length ls ≡ length ps) where
  same-as : (v : ℕ) → head_from ls < store_from v ls → same_path ps k (store_from v ls) ≡ eqb (get_or ps k 0) (get_or (drop (k + 1) ps) (length ls - store_from v ls) 0)
  same-as v z =
      let b = first-le (λ (l : List ℕ). line_stores v l) ls in
      let i : k + 1 + (length ls - store_from v ls) ≡ length ps - store_from v ls = omega arith in
      rw (le-ltb (length ps) (store_from v ls) (omega arith), get_or-drop (k + 1) ps (length ls - store_from v ls) 0, i)

  note-as : (v : ℕ) → Placed own v near → note_by (entry_of own v near) (entry_of own v far) (entry_of own v stores) h (length ls) (same_path ps k (entry_of own v stores))
      ≡ note_by (read_below v ls) (far_from v ls) (store_from v ls) (head_from ls) (length ls) (same_path ps k (store_from v ls))
  note-as v x =
      rw (t.reads v x, t.stored v x, t.head)
      (note-far (read_below v ls) (entry_of own v far) (far_from v ls) (store_from v ls) (head_from ls) (length ls) (same_path ps k (store_from v ls)) (t.again v x))

  store-note : (v : ℕ) → (m : ℕ) → m ≡ store_note own v ps k (length ls) h near far stores →
      DropIs v (get_or ps k 0) ls (drop (k + 1) ps) m × (SendIs v ls m × ((m ≡ 1 → ⊥) × (m ≡ 2 → ⊥)))
  store-note v m q = go (ltb (slot_of (length near) own v) (length near)) refl q
    where
      nothing : m ≡ 0 → DropIs v (get_or ps k 0) ls (drop (k + 1) ps) m × (SendIs v ls m × ((m ≡ 1 → ⊥) × (m ≡ 2 → ⊥)))
      nothing z = rw z (drop-nothing v (get_or ps k 0) ls (drop (k + 1) ps), (send-nothing v ls, (λ q. omega arith, λ q. omega arith)))

      go : (a : Bool) → ltb (slot_of (length near) own v) (length near) ≡ a →
          m ≡ cond a (note_by (entry_of own v near) (entry_of own v far) (entry_of own v stores) h (length ls) (same_path ps k (entry_of own v stores))) 0 →
          DropIs v (get_or ps k 0) ls (drop (k + 1) ps) m × (SendIs v ls m × ((m ≡ 1 → ⊥) × (m ≡ 2 → ⊥)))
      go false x e = nothing e
      go true x e =
          let d = length-drop (k + 1) ps in
          rw (e ∙ note-as v (ltb-true (slot_of (length near) own v) (length near) x))
          (drop-by v (get_or ps k 0) ls (drop (k + 1) ps) (omega arith) (same_path ps k (store_from v ls)) (same-as v), (send_by v ls (same_path ps k (store_from v ls)), store-kind (read_below v ls) (far_from v ls) (store_from v ls) (head_from ls) (length ls) (same_path ps k (store_from v ls))))

  pub note-is : (p : Line) (m : ℕ) → p ≡ parse_of l → m ≡ line_note own p ps k (length ls) h near far stores → NoteIs l (get_or ps k 0) ls (drop (k + 1) ps) m
  unfolding stored-by reg-by
  note-is line.Decl m e q = record {
    kind = (λ z. e, λ z. absurd (omega arith));
    drops = λ s z. no (ap stored-by (e ∙ z));
    sends = λ s z. no (ap stored-by (e ∙ z));
  }
  note-is (line.Store s) m e q = record {
    kind = (λ z. absurd ((store-note s.reg.0 m q).1.1.0 z), λ z. absurd ((store-note s.reg.0 m q).1.1.1 z));
    drops = λ s' z. subst (λ (u : ℕ). DropIs u (get_or ps k 0) ls (drop (k + 1) ps) m) (ap reg-by (e ∙ z)) (store-note s.reg.0 m q).0;
    sends = λ s' z. subst (λ (u : ℕ). SendIs u ls m) (ap reg-by (e ∙ z)) (store-note s.reg.0 m q).1.0;
  }
  note-is line.Other m e q = record {
    kind = (λ z. absurd (omega arith), λ z. e);
    drops = λ s z. no (ap stored-by (e ∙ z));
    sends = λ s z. no (ap stored-by (e ∙ z));
  }

  -- a store whose value may go into the next line: that one reads it
  pub line-may : (s : Store) (m : ℕ) → m ≡ line_note own (line.Store s) ps k (length ls) h near far stores → may_send m ≡ true →
      Placed own s.reg.0 near × ((head_from ls < length ls) × ((read_below s.reg.0 ls ≡ length ls) × (m ≡ cond (ltb (head_from ls) (far_from s.reg.0 ls)) 4 7)))
  line-may s m q z = go (ltb (slot_of (length near) own v) (length near)) refl q
    where
      v : ℕ
      v = s.reg.0

      go : (a : Bool) → ltb (slot_of (length near) own v) (length near) ≡ a →
          m ≡ cond a (note_by (entry_of own v near) (entry_of own v far) (entry_of own v stores) h (length ls) (same_path ps k (entry_of own v stores))) 0 →
          Placed own v near × ((head_from ls < length ls) × ((read_below v ls ≡ length ls) × (m ≡ cond (ltb (head_from ls) (far_from v ls)) 4 7)))
      go false x e = no (sym (ap may_send e) ∙ z)
      go true x e =
          let i = ltb-true (slot_of (length near) own v) (length near) x in
          let w = e ∙ note-as v i in
          let n = note-may (read_below v ls) (far_from v ls) (store_from v ls) (head_from ls) (length ls) (same_path ps k (store_from v ls)) (sym (ap may_send w) ∙ z) in
          (i, (omega (arith, n.0, n.1.0), (n.1.0, w ∙ n.1.1)))

-- a note that says nothing
pub note-nothing : (l : List ℕ) (p : ℕ) (ls : List (List ℕ)) (ps : List ℕ) (m : ℕ) → m ≡ 0 → NoteIs l p ls ps m
note-nothing l p ls ps m z =
    rw z (record { kind = (λ q. absurd (omega arith), λ q. absurd (omega arith)); drops = λ s q. drop-nothing s.reg.0 p ls ps; sends = λ s q. send-nothing s.reg.0 ls })

-- a note that says no more than that the value may go into the next line
pub note-less : (l : List ℕ) (p : ℕ) (ls : List (List ℕ)) (ps : List ℕ) (m : ℕ) → m ≡ 7 → NoteIs l p ls ps m → NoteIs l p ls ps 4
note-less l p ls ps m z n = record {
  kind = (λ q. absurd (omega arith), λ q. absurd (omega arith));
  drops = λ s q. record { live = λ w. (n.drops s q).live (ap read_next z); kept = λ w. absurd (omega arith); dead = λ w. absurd (omega arith) };
  sends = λ s q. record { sent = λ w. (n.sends s q).sent (ap may_send z); stays = λ w. no w };
}

-- ---- the code

pub same-past : (ps : List ℕ) (k s : ℕ) → length ps < s → false ≡ same_path ps k s
same-past ps k s h = rw (lt-ltb (length ps) s h)

pub same_in : (ps : List ℕ) (k s x y : ℕ) → s ≤ length ps → x ≡ get_or ps k 0 → y ≡ get_or ps (length ps - s) 0 → eqb x y ≡ same_path ps k s
same_in ps k s x y h p q = rw (le-ltb (length ps) s h, p, q)

module _ (own : List ℕ) (v : ℕ) (ps : List ℕ) (k m h : ℕ) (near far stores : List ℕ) (i : ℕ) (e : i ≡ slot_of (length near) own v) where
  pub note-past : length near ≤ i → 0 ≡ store_note own v ps k m h near far stores
  note-past x = rw (sym e, le-ltb i (length near) x)

  pub note-in : i < length near → (length far ≡ length near) × (length far ≡ length stores) →
      note_by (get_or near i 0) (get_or far i 0) (get_or stores i 0) h m (same_path ps k (get_or stores i 0)) ≡ store_note own v ps k m h near far stores
  note-in x w =
      let f : slot_of (length far) own v ≡ i = ap (λ (n : ℕ). slot_of n own v) w.0 ∙ sym e in
      let s : slot_of (length stores) own v ≡ i = ap (λ (n : ℕ). slot_of n own v) (sym w.1) ∙ f in
      rw (sym e, f, s, lt-ltb i (length near) x)

module _ (r f s h m : ℕ) (same : Bool) where
  pub note-sent : ltb h r && ltb s r ≡ true → eqb r m && not (ltb s f) ≡ true → h < f → 4 ≡ note_by r f s h m same
  note-sent x y z = rw (x, y, lt-ltb h f z)

  pub note-alone : ltb h r && ltb s r ≡ true → eqb r m && not (ltb s f) ≡ true → f ≤ h → 7 ≡ note_by r f s h m same
  note-alone x y z = rw (x, y, le-ltb h f z)

  pub note-read : ltb h r && ltb s r ≡ true → eqb r m && not (ltb s f) ≡ false → 3 ≡ note_by r f s h m same
  note-read x y = rw (x, y)

  module _ (x : ltb h r && ltb s r ≡ false) where
    pub note-both : ltb h r && eqb s r ≡ true → 5 ≡ note_by r f s h m same
    note-both y = rw (x, y)

    module _ (y : ltb h r && eqb s r ≡ false) where
      pub note-stored : h < s → (t : Bool) → same ≡ t → cond t 6 5 ≡ note_by r f s h m same
      note-stored z t w = rw (x, y, lt-ltb h s z, w)

      pub note-first : s ≤ h → r ≡ m → 0 ≡ note_by r f s h m same
      note-first z w = rw (x, y, le-ltb h s z, eq-eqb r m w)

      pub note-dead : s ≤ h → (r ≡ m → ⊥) → 6 ≡ note_by r f s h m same
      note-dead z w = rw (x, y, le-ltb h s z, ne_eqb r m w)
