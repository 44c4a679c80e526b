-- Laws of what becomes of one line. Assumes nothing.
use Prim.Native.Nat.{ℕ, ◌≤◌}
use mathlib.Core.Path.{◌≡◌, refl, sym, ap, ◌∙◌}
use mathlib.Core.Bool.{Bool, true, false, not, ◌&&◌}
use mathlib.Core.List.{List, ◌∷◌}
use native.Mathlib.Omega.{arith}
use lib.Dec.{eqb}
use lib.ListN.{length, length-take, length-drop}
use Rattle.lines.specs.Lf.{part}
use borrow.Author.Tests.{eq-eqb, ne_eqb}
use Rattle.lines.proofs.Tests.{and-false, and-true}
use Rattle.parse.specs.Parse.{parse_of}
use Rattle.parse.specs.declared.Line.{Line}
use Rattle.words.specs.Runs.{reads_of}
use Rattle.words.specs.Hits.{reg_hit}
use Rattle.reading.specs.Reading.{Reading, pure_in}
use Rattle.reading.specs.Uses.{line_reads, line_stores}
use Rattle.once.specs.Scratch.{is_member, live_below, scratch_at}
use Rattle.once.specs.Once.{dead_by, read_count, later_read}
use Rattle.once.specs.Inner.Tables.{next_in, store_drops, drops_by, line_drops, has_hit, store_forwards, forwards_by, line_forwards}
use Rattle.once.specs.Inner.Noted.{sent_to}

-- ---- a store that goes

module _ (R : Reading) (v : ℕ) (x : List ℕ) (p : ℕ) (b : Bool) (ls : List (List ℕ)) (ps : List ℕ) where
  pub drops-scratch : scratch_at v x ls ≡ true → store_drops R v x p b ls ps ≡ true
  unfolding store_drops
  drops-scratch h = rw h

  -- what the next use reads is wanted
  pub drops-live : live_below v ls ≡ true → dead_by p (next_in v ls ps) ≡ false → store_drops R v x p b ls ps ≡ false
  unfolding store_drops scratch_at
  drops-live h d = rw (h, d, and-false (is_member x))

  module _ (s : scratch_at v x ls ≡ false) where
    pub drops-kept : dead_by p (next_in v ls ps) ≡ false → store_drops R v x p b ls ps ≡ false
    unfolding store_drops
    drops-kept h = rw (s, h)

    pub drops-loop : b ≡ true → store_drops R v x p b ls ps ≡ false
    unfolding store_drops
    drops-loop h = rw (s, h, and-false (pure_in R x), and-false (dead_by p (next_in v ls ps)))

    module _ (o : b ≡ false) where
      pub drops-read : (n : ℕ) → n ≡ reads_of v x → (n ≡ 0 → ⊥) → store_drops R v x p b ls ps ≡ false
      unfolding store_drops
      drops-read n e h = rw (s, o, sym e, ne_eqb n 0 h, and-false (pure_in R x), and-false (dead_by p (next_in v ls ps)))

      module _ (n : ℕ) (e : n ≡ reads_of v x) (z : n ≡ 0) where
        pub drops-impure : pure_in R x ≡ false → store_drops R v x p b ls ps ≡ false
        unfolding store_drops
        drops-impure h = rw (s, h, and-false (dead_by p (next_in v ls ps)))

        pub drops-dead : pure_in R x ≡ true → dead_by p (next_in v ls ps) ≡ store_drops R v x p b ls ps
        unfolding store_drops
        drops-dead h = rw (s, h, o, sym e, eq-eqb n 0 z, and-true (dead_by p (next_in v ls ps)))

pub drops-at : (R : Reading) (l : List ℕ) (p : ℕ) (b : Bool) (ls : List (List ℕ)) (ps : List ℕ) (k : Line) → k ≡ parse_of l → drops_by R l p b ls ps k ≡ line_drops R l p b ls ps
unfolding line_drops
drops-at R l p b ls ps k q = ap (drops_by R l p b ls ps) q

-- ---- a store that goes into the next line

module _ (R : Reading) (v : ℕ) (x : List ℕ) (run : List (List ℕ)) (b goes : Bool) (e : List ℕ) (ls : List (List ℕ)) where
  pub forwards-loop : b ≡ true → store_forwards R v x run b goes e ls ≡ false
  unfolding store_forwards
  forwards-loop h = rw h

  module _ (o : b ≡ false) where
    pub forwards-gone : goes ≡ true → store_forwards R v x run b goes e ls ≡ false
    unfolding store_forwards
    forwards-gone h = rw (o, h)

    module _ (g : goes ≡ false) where
      by-sent : store_forwards R v x run b goes e ls ≡ sent_to v (e ∷ ls) && (pure_in R x && (eqb (read_count v run) 1 && has_hit (reg_hit v e)))
      unfolding store_forwards sent_to
      by-sent = rw (o, g) (go (line_stores v e) (eqb (line_reads v e) 1))
        where
          go : (s c : Bool) → not s && (c && (not (later_read v ls) && (pure_in R x && (eqb (read_count v run) 1 && has_hit (reg_hit v e)))))
              ≡ (not s && (c && not (later_read v ls))) && (pure_in R x && (eqb (read_count v run) 1 && has_hit (reg_hit v e)))
          go true c = refl
          go false true = refl
          go false false = refl

      -- the next line does not read it once, or stores it, or it is read again
      pub forwards-unsent : sent_to v (e ∷ ls) ≡ false → store_forwards R v x run b goes e ls ≡ false
      forwards-unsent h = by-sent ∙ rw h

      module _ (s : sent_to v (e ∷ ls) ≡ true) where
        pub forwards-impure : pure_in R x ≡ false → store_forwards R v x run b goes e ls ≡ false
        forwards-impure h = by-sent ∙ rw (s, h)

        module _ (y : pure_in R x ≡ true) where
          pub forwards-hit : has_hit (reg_hit v e) ≡ false → store_forwards R v x run b goes e ls ≡ false
          forwards-hit h = by-sent ∙ rw (s, y, h) (and-false (eqb (read_count v run) 1))

          pub forwards-once : has_hit (reg_hit v e) ≡ true → eqb (read_count v run) 1 ≡ store_forwards R v x run b goes e ls
          forwards-once h = sym (by-sent ∙ rw (s, y, h) (and-true (eqb (read_count v run) 1)))

-- ---- the value may go into the next line

module _ (v : ℕ) (e : List ℕ) (ls : List (List ℕ)) where
  pub sent-stored : line_stores v e ≡ true → sent_to v (e ∷ ls) ≡ false
  unfolding sent_to
  sent-stored h = rw h

  module _ (s : line_stores v e ≡ false) (n : ℕ) (m : n ≡ line_reads v e) where
    pub sent-reads : (n ≡ 1 → ⊥) → sent_to v (e ∷ ls) ≡ false
    unfolding sent_to
    sent-reads h = rw (s, sym m, ne_eqb n 1 h)

    pub sent-later : n ≡ 1 → not (later_read v ls) ≡ sent_to v (e ∷ ls)
    unfolding sent_to
    sent-later h = rw (s, sym m, eq-eqb n 1 h)

pub forwards-at : (R : Reading) (l : List ℕ) (run : List (List ℕ)) (b goes : Bool) (e : List ℕ) (ls : List (List ℕ)) (k : Line) → k ≡ parse_of l →
    forwards_by R l run b goes e ls k ≡ line_forwards R l run b goes e ls
unfolding line_forwards
forwards-at R l run b goes e ls k q = ap (forwards_by R l run b goes e ls) q

-- the value of a store is a part of its line
pub value_room : (n m : ℕ) (l : List ℕ) → length (part n m l) ≤ length l
value_room n m l = simp (length-take, length-drop) (omega arith)
