-- Laws of the table of the registers that lines use. Assumes nothing.
use Prim.Native.Nat.{ℕ, zero, suc, ◌+◌, ◌≤◌, ◌<◌, min}
use mathlib.Core.Path.{◌≡◌, refl, sym, ap, ◌∙◌}
use mathlib.Core.Bool.{Bool, true, false, cond, ◌||◌}
use mathlib.Core.List.{List, [], ◌∷◌, ◌++◌}
use native.Mathlib.Omega.{arith}
use borrow.Author.Tests.{lt-ltb, le-ltb, ltb-true, ltb-false, eq-eqb, ne_eqb, eqb-true, eqb-false}
use lib.Dec.{eqb, ltb}
use lib.ListN.{length, drop, get_or, set, replicate}
use Rattle.lines.specs.Lf.{part, up_to, lines_of}
use Rattle.lines.proofs.Tests.{or-true, or-false}
use Rattle.lines.proofs.LfLaws.{lines-at, lines_end}
use Rattle.text.specs.Class.{is_name}
use Rattle.names.specs.Names.{reg_of, reg_is}
use Rattle.std.specs.declared.option.Option.{Option}
use Rattle.names.specs.declared.Register.{Register}
use Rattle.std.specs.declared.option.Option.TheVariants.{Some, None}
use Rattle.parse.specs.Parse.{parse_of, text_of}
use Rattle.parse.specs.declared.Line.{Line}
use Rattle.parse.specs.declared.Line.TheVariants as line
use Rattle.words.specs.Runs.{flush, runs, count_by, reads_of}
use Rattle.place.specs.Region.{is_header, until_header, region}
use Rattle.place.specs.Inner.Region.{up_header, region_len}
use Rattle.place.proofs.Regions.{past, end-stop, end_on, end-end, region-at, region-le}
use Rattle.words.proofs.Walk.{Walk, walk_start, walk-name, walk-gap, walk_end}
use Rattle.reading.specs.Uses.{line_reads, stores_by, line_stores, line_uses, used_in}
use Rattle.slots.specs.Inner.Slots.{slot_of, entry_of, with_entry}
use Rattle.slots.proofs.SlotLaws.{Placed, slot_kept, entry_length, entry-same, entry_other, entry-after}
use Rattle.decls.specs.Inner.Firsts.{first_by}
use Rattle.decls.specs.Inner.Seen.{mark_name, mark_runs, mark_store, mark_line, mark_lines, AtMost, Says, asked_in, seen_stays, Quiet, quiet_none, quiet-more}
use Rattle.decls.specs.Inner.Decls.{stays_by}

-- ---- a store past the end

pub set_past : (d : List ℕ) (v m : ℕ) → length d ≤ v → d ≡ set d v m
set_past [] v m h = refl
set_past (x ∷ d) zero m h = absurd (omega arith)
set_past (x ∷ d) (suc v) m h = ap (λ (l : List ℕ). x ∷ l) (set_past d v m (omega arith))

-- a register that has no place
pub entry_past : (own d : List ℕ) (v m k : ℕ) → k ≡ slot_of (length d) own v → length d ≤ k → d ≡ with_entry own v m d
entry_past own d v m k e h = set_past d (slot_of (length d) own v) m (omega (arith, e, h))

-- ---- the table keeps its length

pub name-length : (own : List ℕ) (m : ℕ) (r : Option Register) (d : List ℕ) → length (mark_name own m r d) ≡ length d
name-length own m None d = refl
name-length own m (Some q) d = entry_length own d q.0 m

pub runs-length : (own : List ℕ) (m : ℕ) (rs : List (List ℕ)) (d : List ℕ) → length (mark_runs own m rs d) ≡ length d
unfolding mark_runs
runs-length own m [] d = refl
runs-length own m (r ∷ rs) d = runs-length own m rs (mark_name own m (reg_of r) d) ∙ name-length own m (reg_of r) d

pub store_length : (own : List ℕ) (m : ℕ) (p : Line) (d : List ℕ) → length (mark_store own m p d) ≡ length d
store_length own m line.Decl d = refl
store_length own m (line.Store s) d = entry_length own d s.reg.0 m
store_length own m line.Other d = refl

-- the entry of register v after a store
pub store_entry : (own : List ℕ) (m v : ℕ) (p : Line) (d : List ℕ) → Placed own v d → entry_of own v (mark_store own m p d) ≡ cond (stores_by v p) m (entry_of own v d)
store_entry own m v line.Decl d h = refl
store_entry own m v (line.Store s) d h = entry-after own d s.reg.0 m v h
store_entry own m v line.Other d h = refl

pub line-length : (own : List ℕ) (m : ℕ) (l : List ℕ) (d : List ℕ) → length (mark_line own m l d) ≡ length d
unfolding mark_line
line-length own m l d = runs-length own m (runs (text_of l (parse_of l))) (mark_store own m (parse_of l) d) ∙ store_length own m (parse_of l) d

pub lines-length : (own : List ℕ) (m : ℕ) (ls : List (List ℕ)) (d : List ℕ) → length (mark_lines own m ls d) ≡ length d
unfolding mark_lines
lines-length own m [] d = refl
lines-length own m (l ∷ ls) d = lines-length own m ls (mark_line own m l d) ∙ line-length own m l d

-- ---- what stands at a register that has a place

-- one test after the other
after : (a b c : Bool) → b || (a || c) ≡ (a || b) || c
after true true c = refl
after true false c = refl
after false true c = refl
after false false c = refl

module _ (own : List ℕ) (m v : ℕ) where
  -- its mark is m
  abbrev marked : List ℕ → Bool
  marked d = eqb (entry_of own v d) m

  placed : (d d' : List ℕ) → length d' ≡ length d → Placed own v d → Placed own v d'
  placed d d' e h = slot_kept own d d' v e h

  entry-says : (k : ℕ) (d : List ℕ) → Placed own v d → marked (with_entry own k m d) ≡ eqb k v || marked d
  entry-says k d h = go (eqb k v) refl
    where
      go : (t : Bool) → eqb k v ≡ t → marked (with_entry own k m d) ≡ t || marked d
      go true e = eq-eqb _ m (ap (λ (n : ℕ). entry_of own v (with_entry own n m d)) (eqb-true k v e) ∙ entry-same own d v m h)
      go false e = ap (λ (n : ℕ). eqb n m) (entry_other own d k m v h (eqb-false k v e))

  name-says : (r : Option Register) (d : List ℕ) → Placed own v d → marked (mark_name own m r d) ≡ reg_is v r || marked d
  name-says None d h = refl
  name-says (Some q) d h = entry-says q.0 d h

  runs-says : (rs : List (List ℕ)) (d : List ℕ) → Placed own v d → marked (mark_runs own m rs d) ≡ ltb 0 (count_by (λ (r : List ℕ). reg_is v (reg_of r)) rs) || marked d
  unfolding mark_runs count_by
  runs-says [] d h = refl
  runs-says (r ∷ rs) d h =
      runs-says rs (mark_name own m (reg_of r) d) (placed d (mark_name own m (reg_of r) d) (name-length own m (reg_of r) d) h)
      ∙ ap (λ (b : Bool). ltb 0 (count_by (λ (r : List ℕ). reg_is v (reg_of r)) rs) || b) (name-says (reg_of r) d h)
      ∙ go (reg_is v (reg_of r)) (count_by (λ (r : List ℕ). reg_is v (reg_of r)) rs)
    where
      go : (a : Bool) (n : ℕ) → ltb 0 n || (a || marked d) ≡ ltb 0 (cond a (suc n) n) || marked d
      go true n = let z : 0 < suc n = omega arith in or-true (ltb 0 n) ∙ sym (ap (λ (b : Bool). b || marked d) (lt-ltb 0 (suc n) z))
      go false n = refl

  store-says : (p : Line) (d : List ℕ) → Placed own v d → marked (mark_store own m p d) ≡ stores_by v p || marked d
  store-says line.Decl d h = refl
  store-says (line.Store s) d h = entry-says s.reg.0 d h
  store-says line.Other d h = refl

  line-says : (l d : List ℕ) → Placed own v d → marked (mark_line own m l d) ≡ line_uses v l || marked d
  unfolding mark_line line_uses line_stores line_reads
  line-says l d h =
      let p : Line = parse_of l in
      runs-says (runs (text_of l p)) (mark_store own m p d) (placed d (mark_store own m p d) (store_length own m p d) h)
      ∙ ap (λ (b : Bool). ltb 0 (reads_of v (text_of l p)) || b) (store-says p d h)
      ∙ after (stores_by v p) (ltb 0 (reads_of v (text_of l p))) (marked d)

  lines-says : (ls : List (List ℕ)) (d : List ℕ) → Placed own v d → marked (mark_lines own m ls d) ≡ used_in v ls || marked d
  unfolding mark_lines used_in
  lines-says [] d h = refl
  lines-says (l ∷ ls) d h =
      lines-says ls (mark_line own m l d) (placed d (mark_line own m l d) (line-length own m l d) h)
      ∙ ap (λ (b : Bool). used_in v ls || b) (line-says l d h)
      ∙ after (line_uses v l) (used_in v ls) (marked d)

-- ---- no mark is above

set-most : (m k v : ℕ) (d : List ℕ) → get_or d v 0 ≤ m → get_or (set d k m) v 0 ≤ m
set-most m k v [] h = h
set-most m zero zero (x ∷ d) h = omega arith
set-most m zero (suc v) (x ∷ d) h = h
set-most m (suc k) zero (x ∷ d) h = h
set-most m (suc k) (suc v) (x ∷ d) h = set-most m k v d h

name-most : (own : List ℕ) (m : ℕ) (r : Option Register) (d : List ℕ) → AtMost m d → AtMost m (mark_name own m r d)
name-most own m None d h = h
name-most own m (Some q) d h = λ v. set-most m (slot_of (length d) own q.0) v d (h v)

runs-most : (own : List ℕ) (m : ℕ) (rs : List (List ℕ)) (d : List ℕ) → AtMost m d → AtMost m (mark_runs own m rs d)
unfolding mark_runs
runs-most own m [] d h = h
runs-most own m (r ∷ rs) d h = runs-most own m rs (mark_name own m (reg_of r) d) (name-most own m (reg_of r) d h)

store-most : (own : List ℕ) (m : ℕ) (p : Line) (d : List ℕ) → AtMost m d → AtMost m (mark_store own m p d)
store-most own m line.Decl d h = h
store-most own m (line.Store s) d h = λ v. set-most m (slot_of (length d) own s.reg.0) v d (h v)
store-most own m line.Other d h = h

pub lines-most : (own : List ℕ) (m : ℕ) (ls : List (List ℕ)) (d : List ℕ) → AtMost m d → AtMost m (mark_lines own m ls d)
unfolding mark_lines mark_line
lines-most own m [] d h = h
lines-most own m (l ∷ ls) d h = lines-most own m ls (mark_line own m l d) (runs-most own m (runs (text_of l (parse_of l))) (mark_store own m (parse_of l) d) (store-most own m (parse_of l) d h))

-- ---- a table marked anew, with a mark above those that it has

pub more-most : (n m : ℕ) (d : List ℕ) → n ≤ m → AtMost n d → AtMost m d
more-most n m d k h = λ v. let z = h v in omega arith

pub says-new : (own : List ℕ) (n m : ℕ) (ls : List (List ℕ)) (d : List ℕ) → n < m → AtMost n d → Says own m ls (mark_lines own m ls d)
says-new own n m ls d k h = λ v l.
    let z = h (slot_of (length d) own v) in
    let e : eqb (entry_of own v d) m ≡ false = ne_eqb (entry_of own v d) m (λ q. absurd (omega arith)) in
    lines-says own m v ls d (placed own m v (mark_lines own m ls d) d (sym (lines-length own m ls d)) l) ∙ rw e (or-false (used_in v ls))

-- ---- the loop over a text: the run from a to i is open

pub record RunsInv (own : List ℕ) (m : ℕ) (s d₀ d : List ℕ) (a i : ℕ) : Type 0 where
  pub long : length d ≡ length d₀
  pub walk : Walk (mark_runs own m) s d₀ d a i

pub runs-flush : (own : List ℕ) (m : ℕ) (cur : List ℕ) (rs : List (List ℕ)) (d : List ℕ) → mark_runs own m (flush cur ++ rs) d ≡ mark_runs own m rs (mark_name own m (reg_of cur) d)
unfolding mark_runs reg_of
runs-flush own m [] rs d = refl
runs-flush own m (x ∷ cur) rs d = refl

runs_none : (own : List ℕ) (m : ℕ) (d : List ℕ) → mark_runs own m [] d ≡ d
unfolding mark_runs
runs_none own m d = refl

pub runs-start : (own : List ℕ) (m : ℕ) (s d : List ℕ) → RunsInv own m s d d 0 0
runs-start own m s d = record { long = refl; walk = walk_start (mark_runs own m) s d }

module _ {own : List ℕ} {m : ℕ} {s d₀ d : List ℕ} {a i : ℕ} (h : RunsInv own m s d₀ d a i) where
  pub runs-name : i < length s → is_name (get_or s i 0) ≡ true → RunsInv own m s d₀ d a (i + 1)
  runs-name k e = record { long = h.long; walk = walk-name h.walk k e }

  pub runs-gap : i < length s → is_name (get_or s i 0) ≡ false → (w d' : List ℕ) → w ≡ part a i s → d' ≡ mark_name own m (reg_of w) d → RunsInv own m s d₀ d' (i + 1) (i + 1)
  runs-gap k e w d' p q = record {
    long = ap length q ∙ name-length own m (reg_of w) d ∙ h.long;
    walk = walk-gap (mark_runs own m) (λ (c x : List ℕ). mark_name own m (reg_of c) x) (runs-flush own m) h.walk k e w p q;
  }

  pub runs-end : length s ≤ i → (w d' : List ℕ) → w ≡ part a i s → d' ≡ mark_name own m (reg_of w) d → d' ≡ mark_runs own m (runs s) d₀
  runs-end k w d' p q = walk_end (mark_runs own m) (λ (c x : List ℕ). mark_name own m (reg_of c) x) (runs-flush own m) (runs_none own m) h.walk k w p q

-- ---- a line, read once

pub line_marked : (own : List ℕ) (m : ℕ) (l d d₁ d₂ t : List ℕ) (p : Line) → p ≡ parse_of l → d₁ ≡ mark_store own m p d → t ≡ text_of l p → d₂ ≡ mark_runs own m (runs t) d₁ → d₂ ≡ mark_line own m l d
unfolding mark_line
line_marked own m l d d₁ d₂ t p e x y z =
    z ∙ ap (λ (c : List ℕ). mark_runs own m (runs c) d₁) (y ∙ ap (text_of l) e) ∙ ap (mark_runs own m (runs (text_of l (parse_of l)))) (x ∙ ap (λ (q : Line). mark_store own m q d) e)

-- ---- the loop over a region after its first line: the lines from j on, up to the next header, are still to be marked; it began at k, with the table d₀

pub record RegionInv (own : List ℕ) (m : ℕ) (t d₀ d : List ℕ) (a k j : ℕ) : Type 0 where
  pub a≤ : a ≤ j
  pub j≤ : j ≤ length t
  pub long : length d ≡ length d₀
  pub ends : j + up_header 0 (drop j t) ≡ a + region_len (drop a t)
  pub so_far : mark_lines own m (until_header (lines_of (drop j t))) d ≡ mark_lines own m (until_header (lines_of (drop k t))) d₀

mark-first : (own : List ℕ) (m : ℕ) (l : List ℕ) (ls : List (List ℕ)) (d : List ℕ) → mark_lines own m (region (l ∷ ls)) d ≡ mark_lines own m (until_header ls) (mark_line own m l d)
unfolding mark_lines region
mark-first own m l ls d = refl

mark-next : (own : List ℕ) (m : ℕ) (l : List ℕ) (ls : List (List ℕ)) (d : List ℕ) → is_header l ≡ false → mark_lines own m (until_header (l ∷ ls)) d ≡ mark_lines own m (until_header ls) (mark_line own m l d)
unfolding mark_lines until_header
mark-next own m l ls d e = rw e

mark-stop : (own : List ℕ) (m : ℕ) (l : List ℕ) (ls : List (List ℕ)) (d : List ℕ) → is_header l ≡ true → mark_lines own m (until_header (l ∷ ls)) d ≡ d
unfolding mark_lines until_header
mark-stop own m l ls d e = rw e

mark-none : (own : List ℕ) (m : ℕ) (d : List ℕ) → (mark_lines own m (until_header []) d ≡ d) × (mark_lines own m (region []) d ≡ d)
unfolding mark_lines until_header region
mark-none own m d = (refl, refl)

-- past the end there is no line
pub region-none : (own : List ℕ) (m : ℕ) (t d : List ℕ) (a : ℕ) → length t ≤ a → d ≡ mark_lines own m (region (lines_of (drop a t))) d
region-none own m t d a h = sym (ap (λ (ls : List (List ℕ)). mark_lines own m (region ls) d) (lines_end t a h) ∙ (mark-none own m d).1)

-- the first line, from a up to e, and the rest
module _ (own : List ℕ) (m : ℕ) (t d d' : List ℕ) (a e k : ℕ) (l : List ℕ) (h : a < length t) (q : e ≡ a + up_to 10 (drop a t)) (z : k ≡ min (e + 1) (length t)) where
  pub region-start : RegionInv own m t d' d' a k k
  region-start = record { a≤ = omega arith; j≤ = omega arith; long = refl; ends = past t a e k q (omega arith) z; so_far = refl }

  pub region-first : l ≡ part a e t → d' ≡ mark_line own m l d → mark_lines own m (until_header (lines_of (drop k t))) d' ≡ mark_lines own m (region (lines_of (drop a t))) d
  region-first p x =
      ap (λ (n : ℕ). mark_lines own m (until_header (lines_of (drop n t))) d') z
      ∙ ap (mark_lines own m (until_header (lines_of (drop (min (e + 1) (length t)) t)))) (x ∙ ap (λ (c : List ℕ). mark_line own m c d) p)
      ∙ sym (ap (λ (ls : List (List ℕ)). mark_lines own m (region ls) d) (lines-at t a e h q) ∙ mark-first own m (part a e t) (lines_of (drop (min (e + 1) (length t)) t)) d)

module _ {own : List ℕ} {m : ℕ} {t d₀ d : List ℕ} {a b j : ℕ} (h : RegionInv own m t d₀ d a b j) where
  module _ (f : ℕ) (l : List ℕ) (k : j < length t) (q : f ≡ j + up_to 10 (drop j t)) (p : l ≡ part j f t) where
    pub region-stop : is_header l ≡ true → (j ≡ a + region_len (drop a t)) × (d ≡ mark_lines own m (until_header (lines_of (drop b t))) d₀)
    region-stop e = (
      omega (arith, h.ends, end-stop t j f k q (ap is_header (sym p) ∙ e)),
      sym (ap (λ (ls : List (List ℕ)). mark_lines own m (until_header ls) d) (lines-at t j f k q) ∙ mark-stop own m (part j f t) (lines_of (drop (min (f + 1) (length t)) t)) d (ap is_header (sym p) ∙ e)) ∙ h.so_far,
    )

    pub region-on : is_header l ≡ false → (d' : List ℕ) (j' : ℕ) → d' ≡ mark_line own m l d → j' ≡ min (f + 1) (length t) → RegionInv own m t d₀ d' a b j'
    region-on e d' j' x z = record {
      a≤ = omega (arith, h.a≤);
      j≤ = omega arith;
      long = ap length x ∙ line-length own m l d ∙ h.long;
      ends = past t j f j' q (omega arith) z ∙ ap (λ (n : ℕ). j + n) (sym (end_on t j f k q (ap is_header (sym p) ∙ e))) ∙ h.ends;
      so_far =
          ap (λ (n : ℕ). mark_lines own m (until_header (lines_of (drop n t))) d') z
          ∙ ap (mark_lines own m (until_header (lines_of (drop (min (f + 1) (length t)) t)))) (x ∙ ap (λ (c : List ℕ). mark_line own m c d) p)
          ∙ sym (ap (λ (ls : List (List ℕ)). mark_lines own m (until_header ls) d) (lines-at t j f k q) ∙ mark-next own m (part j f t) (lines_of (drop (min (f + 1) (length t)) t)) d (ap is_header (sym p) ∙ e))
          ∙ h.so_far;
    }

  pub region-end : length t ≤ j → (j ≡ a + region_len (drop a t)) × (d ≡ mark_lines own m (until_header (lines_of (drop b t))) d₀)
  region-end k = (
    omega (arith, h.ends, end-end t j k),
    sym (ap (λ (ls : List (List ℕ)). mark_lines own m (until_header ls) d) (lines_end t j k) ∙ (mark-none own m d).0) ∙ h.so_far,
  )

-- ---- lines that are neither headers nor declarations

pub quiet-le : {t : List ℕ} {i j : ℕ} → Quiet t i j → i ≤ j
quiet-le (quiet_none i) = omega arith
quiet-le (quiet-more i j e k w l q x y z) = let g = quiet-le w in omega arith

-- ---- a table with the last mark m: no mark is above it, and where the region that begins at a is marked, the table speaks of it, and it ends at b

pub record Marks (own t : List ℕ) (a b m : ℕ) (d : List ℕ) : Type 0 where
  pub most : AtMost m d
  pub says : a < m → Says own m (region (lines_of (drop a t))) d
  pub ends : a < m → b ≡ a + region_len (drop a t)

-- after its region is marked, where that was not done yet
module _ {own t : List ℕ} {a b m : ℕ} {d : List ℕ} (h : Marks own t a b m d) (m' b' : ℕ) (d' : List ℕ) (p : m' ≡ cond (ltb a m) m (a + 1)) (q : b' ≡ cond (ltb a m) b (a + region_len (drop a t)))
    (r : d' ≡ cond (ltb a m) d (mark_lines own (a + 1) (region (lines_of (drop a t))) d)) where
  marks-once : Marks own t a b' m' d'
  marks-once = go (ltb a m) refl p q r
    where
      go : (x : Bool) → ltb a m ≡ x → m' ≡ cond x m (a + 1) → b' ≡ cond x b (a + region_len (drop a t)) → d' ≡ cond x d (mark_lines own (a + 1) (region (lines_of (drop a t))) d) → Marks own t a b' m' d'
      go true e u v w = rw (u, v, w) h
      go false e u v w =
          let k = ltb-false a m e in
          rw (u, w)
          (record {
            most = lines-most own (a + 1) (region (lines_of (drop a t))) d (more-most m (a + 1) d (omega arith) h.most);
            says = λ _. says-new own m (a + 1) (region (lines_of (drop a t))) d (omega arith) h.most;
            ends = λ _. v;
          })

  -- it is
  mark-above : a < m'
  mark-above = go (ltb a m) refl p
    where
      go : (x : Bool) → ltb a m ≡ x → m' ≡ cond x m (a + 1) → a < m'
      go true e u = let k = ltb-true a m e in omega arith
      go false e u = omega arith

  mark-small : (n : ℕ) → m ≤ n → a + 1 ≤ n → m' ≤ n
  mark-small n x y = go (ltb a m) p
    where
      go : (x : Bool) → m' ≡ cond x m (a + 1) → m' ≤ n
      go true u = omega arith
      go false u = omega arith

  mark-length : length d' ≡ length d
  mark-length = go (ltb a m) r
    where
      go : (x : Bool) → d' ≡ cond x d (mark_lines own (a + 1) (region (lines_of (drop a t))) d) → length d' ≡ length d
      go true w = ap length w
      go false w = ap length w ∙ lines-length own (a + 1) (region (lines_of (drop a t))) d

-- ---- the loop over a text: a is the place at which the region of the line above begins, and m the last mark

pub record TableInv (own t d₀ d : List ℕ) (a b m i : ℕ) : Type 0 where
  pub a≤ : a ≤ i
  pub m≤ : m ≤ i
  pub long : length d ≡ length d₀
  pub marks : Marks own t a b m d

pub table-start : (own t d : List ℕ) → AtMost 0 d → TableInv own t d d 0 0 0 0
table-start own t d h = record { a≤ = omega arith; m≤ = omega arith; long = refl; marks = record { most = h; says = λ k. absurd (omega arith); ends = λ k. absurd (omega arith) } }

module _ {own t d₀ d : List ℕ} {a b m i : ℕ} (h : TableInv own t d₀ d a b m i) where
  -- a region that begins here is not marked yet
  pub table-new : TableInv own t d₀ d i b m i
  table-new = record {
    a≤ = omega arith;
    m≤ = h.m≤;
    long = h.long;
    marks = record { most = h.marks.most; says = λ k. absurd (omega (arith, h.m≤)); ends = λ k. absurd (omega (arith, h.m≤)) };
  }

  -- a line that marks nothing
  pub table-pass : (e i' : ℕ) → i < length t → e ≡ i + up_to 10 (drop i t) → i' ≡ min (e + 1) (length t) → TableInv own t d₀ d a b m i'
  table-pass e i' k x z = record { a≤ = omega (arith, h.a≤); m≤ = omega (arith, h.m≤); long = h.long; marks = h.marks }

  -- lines that mark nothing
  pub table-quiet : (j : ℕ) → Quiet t i j → TableInv own t d₀ d a b m j
  table-quiet j w = let g = quiet-le w in record { a≤ = omega (arith, h.a≤); m≤ = omega (arith, h.m≤); long = h.long; marks = h.marks }

  module _ (m' b' : ℕ) (d' : List ℕ) (p : m' ≡ cond (ltb a m) m (a + 1)) (q : b' ≡ cond (ltb a m) b (a + region_len (drop a t))) (r : d' ≡ cond (ltb a m) d (mark_lines own (a + 1) (region (lines_of (drop a t))) d)) where
    -- the region is that part
    pub table-region : (run : List ℕ) → run ≡ part a b' t → lines_of run ≡ region (lines_of (drop a t))
    table-region run y = ap lines_of y ∙ region-at t a b' ((marks-once h.marks m' b' d' p q r).ends (mark-above h.marks m' b' d' p q r))

    -- and lies inside the text
    pub table-inside : a ≤ length t → (a ≤ b') × (b' ≤ length t)
    table-inside l = let e = (marks-once h.marks m' b' d' p q r).ends (mark-above h.marks m' b' d' p q r) in (omega (arith, e), region-le t a b' l e)

    pub table-says : (run : List ℕ) → run ≡ part a b' t → Says own m' (lines_of run) d'
    table-says run y = rw (table-region run y) ((marks-once h.marks m' b' d' p q r).says (mark-above h.marks m' b' d' p q r))

    pub table_on : (e i' : ℕ) → i < length t → e ≡ i + up_to 10 (drop i t) → i' ≡ min (e + 1) (length t) → TableInv own t d₀ d' a b' m' i'
    table_on e i' k x z = record {
      a≤ = omega (arith, h.a≤);
      m≤ = mark-small h.marks m' b' d' p q r i' (omega (arith, h.m≤)) (omega (arith, h.a≤));
      long = mark-length h.marks m' b' d' p q r ∙ h.long;
      marks = marks-once h.marks m' b' d' p q r;
    }

-- ---- asking the table: the place of register v is k

module _ (own : List ℕ) (m : ℕ) (d : List ℕ) (run : List (List ℕ)) (v k : ℕ) (e : k ≡ slot_of (length d) own v) where
  pub asked-held : k < length d → eqb (get_or d k 0) m ≡ asked_in own m d run v
  asked-held h = ap (λ (n : ℕ). eqb (get_or d n 0) m) e ∙ sym (ap (λ (b : Bool). cond b (eqb (entry_of own v d) m) (used_in v run)) (lt-ltb (slot_of (length d) own v) (length d) (omega (arith, e, h))))

  pub asked-past : length d ≤ k → used_in v run ≡ asked_in own m d run v
  asked-past h = sym (ap (λ (b : Bool). cond b (eqb (entry_of own v d) m) (used_in v run)) (le-ltb (slot_of (length d) own v) (length d) (omega (arith, e, h))))

-- where it says what its lines use
pub asked-says : (own : List ℕ) (m : ℕ) (run : List (List ℕ)) (d : List ℕ) → Says own m run d → (v : ℕ) → asked_in own m d run v ≡ used_in v run
asked-says own m run d h v = go (ltb (slot_of (length d) own v) (length d)) refl
  where
    go : (b : Bool) → ltb (slot_of (length d) own v) (length d) ≡ b → cond b (eqb (entry_of own v d) m) (used_in v run) ≡ used_in v run
    go true e = h v (ltb-true _ _ e)
    go false e = refl

pub seen-stays : (own : List ℕ) (m : ℕ) (run : List (List ℕ)) (d : List ℕ) → Says own m run d → (r : Option Register) → seen_stays own m d run r ≡ stays_by run r
seen-stays own m run d h None = refl
seen-stays own m run d h (Some q) = asked-says own m run d h q.0

-- ---- a table of zeros holds no mark

pub zeros-most : (n : ℕ) → AtMost 0 (replicate n 0)
zeros-most n = λ v. go n v
  where
    go : (n v : ℕ) → get_or (replicate {A = ℕ} n 0) v 0 ≤ 0
    go zero v = omega arith
    go (suc n) zero = omega arith
    go (suc n) (suc v) = go n v

pub wiped-most : (n : ℕ) (d : List ℕ) → d ≡ replicate n 0 → AtMost 0 d
wiped-most n d e = rw e (zeros-most n)

-- ---- the number of the first line that passes a test

pub first-le : (f : List ℕ → Bool) (ls : List (List ℕ)) → first_by f ls ≤ length ls
unfolding first_by
first-le f [] = omega arith
first-le f (l ∷ ls) = go (f l) (first-le f ls)
  where
    go : (b : Bool) → first_by f ls ≤ length ls → cond b (suc (length ls)) (first_by f ls) ≤ suc (length ls)
    go true h = omega arith
    go false h = omega arith
