-- The index of a region: the code's steps leave in its tables what the definitions say. Assumes nothing.
use Prim.Native.Nat.{ℕ, zero, suc, ◌+◌, ◌-◌, ◌^◌, ◌≤◌, ◌<◌, min}
use mathlib.Core.Path.{◌≡◌, refl, sym, ap, ◌∙◌}
use mathlib.Core.Bool.{Bool, true, false, cond, not, ◌&&◌}
use mathlib.Core.List.{List, [], ◌∷◌, ◌++◌}
use native.Mathlib.Omega.{arith}
use borrow.Author.Tests.{lt-ltb, le-ltb, eq-eqb, ne_eqb, eqb-false}
use lib.Dec.{eqb, ltb}
use lib.ListN.{length, take, drop, get_or, set, length-set}
use Rattle.lines.specs.Lf.{part, up_to, prefixed, ends_in, lines_of, parts_of}
use Rattle.lines.proofs.LfLaws.{lines-at, lines_end}
use Rattle.text.specs.Trim.{from_of, trim_of}
use Rattle.names.specs.Names.{reg_of}
use Rattle.std.specs.declared.option.Option.{Option}
use Rattle.names.specs.declared.Register.{Register}
use Rattle.std.specs.declared.option.Option.TheVariants.{Some, None}
use Rattle.parse.specs.Parse.{body_of, is_decl, store_by, split_store, store_in, parse_of, text_of}
use Rattle.parse.specs.declared.Store.{Store}
use Rattle.parse.specs.declared.Line.{Line}
use Rattle.parse.specs.declared.Line.TheVariants as line
use Rattle.words.specs.Runs.{flush, runs_go, runs}
use Rattle.words.specs.Inner.Runs.{run_len, reg_gap}
use Rattle.words.proofs.Walk.{RegWalk, regs-start, regs-less, regs-on, regs-end}
use Rattle.names.proofs.Texts.{reg-first}
use Rattle.slots.specs.Inner.Slots.{slot_of, entry_of, with_entry}
use Rattle.decls.specs.Inner.Seen.{mark_name}
use Rattle.decls.proofs.SeenLaws.{set_past, name-length}
use Rattle.bind.specs.Bind.{pieces_of}
use Rattle.bind.specs.Inner.Index.{after_store, after_read, read_name, read_runs, store_line, use_line, use_lines, again_reg, again_name, seen_pieces, again_pieces, seen_lines, again_lines, seen_at, first_at, asked}

-- ---- one register: its place i in the table u

set_same : (u : List ℕ) (i : ℕ) → u ≡ set u i (get_or u i 0)
set_same [] i = refl
set_same (x ∷ u) zero = refl
set_same (x ∷ u) (suc i) = ap (λ (l : List ℕ). x ∷ l) (set_same u i)

module _ (own : List ℕ) (v : ℕ) (u : List ℕ) {i : ℕ} (p : i ≡ slot_of (length u) own v) where
  pub entry_here : get_or u i 0 ≡ entry_of own v u
  entry_here = ap (λ (n : ℕ). get_or u n 0) p

  pub entry-put : (x : ℕ) → set u i x ≡ with_entry own v x u
  entry-put x = ap (λ (n : ℕ). set u n x) p

  -- one that has no place leaves the table as it is
  pub entry_past : (x : ℕ) → length u ≤ i → u ≡ with_entry own v x u
  entry_past x h = set_past u i x h ∙ entry-put x

  module _ (b : ℕ) where
    pub read_low : get_or u i 0 < b → set u i b ≡ with_entry own v (after_read b (entry_of own v u)) u
    read_low h = ap (set u i) (sym (rw (← entry_here, lt-ltb (get_or u i 0) b h))) ∙ entry-put (after_read b (entry_of own v u))

    pub read-high : b ≤ get_or u i 0 → u ≡ with_entry own v (after_read b (entry_of own v u)) u
    read-high h = set_same u i ∙ ap (set u i) (sym (rw (← entry_here, le-ltb (get_or u i 0) b h))) ∙ entry-put (after_read b (entry_of own v u))

    pub store_low : (c : ℕ) → get_or u i 0 < b → set u i c ≡ with_entry own v (after_store b c (entry_of own v u)) u
    store_low c h = ap (set u i) (sym (rw (← entry_here, lt-ltb (get_or u i 0) b h))) ∙ entry-put (after_store b c (entry_of own v u))

    pub store-high : (c : ℕ) → b ≤ get_or u i 0 → set u i b ≡ with_entry own v (after_store b c (entry_of own v u)) u
    store-high c h = ap (set u i) (sym (rw (← entry_here, le-ltb (get_or u i 0) b h))) ∙ entry-put (after_store b c (entry_of own v u))

-- the same place in the table d, which is as long
module _ (own : List ℕ) (m b v : ℕ) (d u : List ℕ) (s : length d ≡ length u) {i : ℕ} (p : i ≡ slot_of (length u) own v) where
  pub seen-place : i ≡ slot_of (length d) own v
  seen-place = p ∙ ap (λ (n : ℕ). slot_of n own v) (sym s)

  again_by : (t : Bool) → ltb (get_or d i 0) m ≡ t → cond t u (set u i b) ≡ again_reg own m b v d u
  again_by t e = ap (cond t u) (entry-put own v u p b) ∙ ap (λ (c : Bool). cond c u (with_entry own v b u)) (sym e ∙ ap (λ (x : ℕ). ltb x m) (entry_here own v d seen-place))

  pub again-past : length u ≤ i → u ≡ again_reg own m b v d u
  again-past h = go (ltb (get_or d i 0) m) refl
    where
      go : (t : Bool) → ltb (get_or d i 0) m ≡ t → u ≡ again_reg own m b v d u
      go true e = again_by true e
      go false e = set_past u i b h ∙ again_by false e

  pub again-low : get_or d i 0 < m → u ≡ again_reg own m b v d u
  again-low h = again_by true (lt-ltb (get_or d i 0) m h)

  pub again-high : m ≤ get_or d i 0 → set u i b ≡ again_reg own m b v d u
  again-high h = again_by false (le-ltb (get_or d i 0) m h)

module _ (own : List ℕ) where
  -- ---- the tables keep their lengths

  pub read_length : (b : ℕ) (r : Option Register) (u : List ℕ) → length (read_name own b r u) ≡ length u
  read_length b None u = refl
  read_length b (Some q) u = length-set u (slot_of (length u) own q.0) (after_read b (entry_of own q.0 u))

  runs-length : (b : ℕ) (rs : List (List ℕ)) (u : List ℕ) → length (read_runs own b rs u) ≡ length u
  unfolding read_runs
  runs-length b [] u = refl
  runs-length b (r ∷ rs) u = runs-length b rs (read_name own b (reg_of r) u) ∙ read_length b (reg_of r) u

  pub store_length : (b c : ℕ) (p : Line) (u : List ℕ) → length (store_line own b c p u) ≡ length u
  store_length b c line.Decl u = refl
  store_length b c (line.Store s) u = length-set u (slot_of (length u) own s.reg.0) (after_store b c (entry_of own s.reg.0 u))
  store_length b c line.Other u = refl

  pub use-length : (b c : ℕ) (l u : List ℕ) → length (use_line own b c l u) ≡ length u
  unfolding use_line
  use-length b c l u = runs-length b (runs (text_of l (parse_of l))) (store_line own b c (parse_of l) u) ∙ store_length b c (parse_of l) u

  pub uses-length : (b k : ℕ) (ls : List (List ℕ)) (u : List ℕ) → length (use_lines own b k ls u) ≡ length u
  unfolding use_lines
  uses-length b k [] u = refl
  uses-length b k (l ∷ ls) u = uses-length b (k + 1) ls (use_line own b (k + 1) l u) ∙ use-length b (k + 1) l u

  pub again-length : (m b : ℕ) (r : Option Register) (d u : List ℕ) → length (again_name own m b r d u) ≡ length u
  again-length m b None d u = refl
  again-length m b (Some q) d u = go (ltb (entry_of own q.0 d) m)
    where
      go : (t : Bool) → length (cond t u (with_entry own q.0 b u)) ≡ length u
      go true = refl
      go false = length-set u (slot_of (length u) own q.0) b

  pub seen-pieces-length : (m : ℕ) (ps : List (List ℕ)) (d : List ℕ) → length (seen_pieces own m ps d) ≡ length d
  unfolding seen_pieces
  seen-pieces-length m [] d = refl
  seen-pieces-length m (p ∷ ps) d = seen-pieces-length m ps (mark_name own m (reg_of (trim_of p)) d) ∙ name-length own m (reg_of (trim_of p)) d

  pub again-pieces-length : (m b : ℕ) (ps : List (List ℕ)) (d u : List ℕ) → length (again_pieces own m b ps d u) ≡ length u
  unfolding again_pieces
  again-pieces-length m b [] d u = refl
  again-pieces-length m b (p ∷ ps) d u = again-pieces-length m b ps (mark_name own m (reg_of (trim_of p)) d) (again_name own m b (reg_of (trim_of p)) d u) ∙ again-length m b (reg_of (trim_of p)) d u

  pub seen-length : (m : ℕ) (ls : List (List ℕ)) (d : List ℕ) → length (seen_lines own m ls d) ≡ length d
  unfolding seen_lines
  seen-length m [] d = refl
  seen-length m (l ∷ ls) d = seen-length m ls (seen_pieces own m (pieces_of l) d) ∙ seen-pieces-length m (pieces_of l) d

  pub agains-length : (m b : ℕ) (ls : List (List ℕ)) (d u : List ℕ) → length (again_lines own m b ls d u) ≡ length u
  unfolding again_lines
  agains-length m b [] d u = refl
  agains-length m b (l ∷ ls) d u = agains-length m b ls (seen_pieces own m (pieces_of l) d) (again_pieces own m b (pieces_of l) d u) ∙ again-pieces-length m b (pieces_of l) d u

  -- ---- the loop over the runs of a text that begin with `r`: it has come to the run at i

  pub record ReadInv (b : ℕ) (s u₀ u : List ℕ) (i : ℕ) : Type 0 where
    pub long : length u ≡ length u₀
    pub walk : RegWalk (read_runs own b) s u₀ u i

  module _ (b : ℕ) where
    -- what one run does
    abbrev read_step : List ℕ → List ℕ → List ℕ
    read_step r u = read_name own b (reg_of r) u

    runs-flush : (cur : List ℕ) (rs : List (List ℕ)) (u : List ℕ) → read_runs own b (flush cur ++ rs) u ≡ read_runs own b rs (read_step cur u)
    unfolding read_runs reg_of
    runs-flush [] rs u = refl
    runs-flush (x ∷ cur) rs u = refl

    -- one that begins with another byte names no register
    runs_other : (x : ℕ) (cur u : List ℕ) → eqb x 114 ≡ false → read_step (x ∷ cur) u ≡ u
    runs_other x cur u e = ap (λ (r : Option Register). read_name own b r u) (reg-first (x ∷ cur) (eqb-false x 114 e))

    runs_none : (u : List ℕ) → read_runs own b [] u ≡ u
    unfolding read_runs
    runs_none u = refl

    pub read-start : (s u : List ℕ) (i : ℕ) → i ≡ 0 + reg_gap false (drop 0 s) → ReadInv b s u u i
    read-start s u i q = record { long = refl; walk = regs-start (read_runs own b) read_step runs-flush runs_other s u i q }

    module _ {s u₀ u : List ℕ} {i : ℕ} (h : ReadInv b s u₀ u i) where
      module _ (l : i < length s) (e : ℕ) (p : e ≡ i + run_len (drop i s)) (k : ℕ) (q : k ≡ e + reg_gap false (drop e s)) where
        pub read-less : i < k
        read-less = regs-less (read_runs own b) read_step runs-flush runs_other h.walk l e p k q

        pub read-on : (w u' : List ℕ) → w ≡ part i e s → u' ≡ read_step w u → ReadInv b s u₀ u' k
        read-on w u' y z = record {
          long = ap length z ∙ read_length b (reg_of w) u ∙ h.long;
          walk = regs-on (read_runs own b) read_step runs-flush runs_other h.walk l e p k q w y z;
        }

      pub read-end : length s ≤ i → u ≡ read_runs own b (runs s) u₀
      read-end l = regs-end (read_runs own b) read_step runs-flush runs_other h.walk runs_none l

  -- ---- a line, read once

  pub store-used : (b c : ℕ) (l u u₁ u₂ t : List ℕ) (p : Store) → u₁ ≡ with_entry own p.reg.0 (after_store b c (entry_of own p.reg.0 u)) u → t ≡ part p.from p.to l → u₂ ≡ read_runs own b (runs t) u₁ →
      u₂ ≡ read_runs own b (runs (part p.from p.to l)) (store_line own b c (line.Store p) u)
  store-used b c l u u₁ u₂ t p x y z = z ∙ ap (λ (r : List ℕ). read_runs own b (runs r) u₁) y ∙ ap (read_runs own b (runs (part p.from p.to l))) x

  -- a text that does not begin with `r` names no register
  pub no_front : (b : ℕ) (t u : List ℕ) (x : ℕ) → x ≡ get_or t 0 0 → (x ≡ 114 → ⊥) → u ≡ read_name own b (reg_of t) u
  unfolding reg_of prefixed
  no_front b [] u x e n = refl
  no_front b (y ∷ t) u x e n = sym (rw (ne_eqb 114 y (λ z. n (e ∙ sym z))) refl)

  -- what is no store is none of a declaration
  store-decl : (a : ℕ) (t : List ℕ) → store_in a t ≡ line.Decl → ⊥
  unfolding store_in
  store-decl a t e = go (ends_in 59 t) e
    where
      by : (r : Option Register) (n : ℕ) (x : List ℕ) → store_by r n x ≡ line.Decl → ⊥
      by None n x e = let z : ◌≡◌ {A = ℕ} 0 1 = cc in absurd (omega arith)
      by (Some q) n x e = let z : ◌≡◌ {A = ℕ} 0 1 = cc in absurd (omega arith)

      split : (c : Bool) (r : Option Register) (n : ℕ) (x : List ℕ) → cond c (store_by r n x) line.Other ≡ line.Decl → ⊥
      split true r n x e = by r n x e
      split false r n x e = let z : ◌≡◌ {A = ℕ} 0 1 = cc in absurd (omega arith)

      go : (c : Bool) → cond c (split_store a (take (length t - 1) t)) line.Other ≡ line.Decl → ⊥
      go true e =
          let u = take (length t - 1) t in
          split (ltb (up_to 61 u) (length u) && not (eqb (get_or u (up_to 61 u + 1) 0) 61)) (reg_of (trim_of (take (up_to 61 u) u))) (a + (up_to 61 u + 1)) (drop (up_to 61 u + 1) u) e
      go false e = let z : ◌≡◌ {A = ℕ} 0 1 = cc in absurd (omega arith)

  module _ (m b c : ℕ) (l d u : List ℕ) where
    pub line-decl : parse_of l ≡ line.Decl → is_decl (trim_of l) ≡ true
    unfolding parse_of
    line-decl e = go (is_decl (trim_of l)) e
      where
        go : (t : Bool) → cond t line.Decl (store_in (from_of l) (trim_of l)) ≡ line.Decl → t ≡ true
        go true e = refl
        go false e = absurd (store-decl (from_of l) (trim_of l) e)

    pub read-decl : parse_of l ≡ line.Decl → {d' u' : List ℕ} → d' ≡ seen_pieces own m (pieces_of l) d → u' ≡ again_pieces own m b (pieces_of l) d u →
        (d' ≡ seen_pieces own m (pieces_of l) d) × (u' ≡ again_pieces own m b (pieces_of l) d (use_line own b c l u))
    unfolding use_line text_of runs runs_go read_runs
    read-decl e x y = (x, y ∙ ap (again_pieces own m b (pieces_of l) d) (sym (rw e refl)))

    -- a line that is read as anything else declares nothing
    pieces_none : (p : Line) → (p ≡ line.Decl → ⊥) → parse_of l ≡ p → pieces_of l ≡ []
    unfolding parse_of pieces_of
    pieces_none p n e = go (is_decl (trim_of l)) e
      where
        go : (t : Bool) → cond t line.Decl (store_in (from_of l) (trim_of l)) ≡ p → cond t (parts_of 44 (body_of (trim_of l))) [] ≡ []
        go true e = absurd (n (sym e))
        go false e = refl

    read-else : (p : Line) → (p ≡ line.Decl → ⊥) → parse_of l ≡ p → {u' : List ℕ} → u' ≡ read_runs own b (runs (text_of l p)) (store_line own b c p u) →
        (d ≡ seen_pieces own m (pieces_of l) d) × (u' ≡ again_pieces own m b (pieces_of l) d (use_line own b c l u))
    unfolding use_line seen_pieces again_pieces
    read-else p n e x = rw (pieces_none p n e, e) (refl, x)

    pub read-store : (s : Store) → parse_of l ≡ line.Store s → {u' : List ℕ} → u' ≡ read_runs own b (runs (part s.from s.to l)) (store_line own b c (line.Store s) u) →
        (d ≡ seen_pieces own m (pieces_of l) d) × (u' ≡ again_pieces own m b (pieces_of l) d (use_line own b c l u))
    unfolding text_of
    read-store s e x = read-else (line.Store s) (λ q. let z : ◌≡◌ {A = ℕ} 0 1 = cc in absurd (omega arith)) e x

    pub read-other : parse_of l ≡ line.Other → {u' : List ℕ} → u' ≡ read_runs own b (runs l) u →
        (d ≡ seen_pieces own m (pieces_of l) d) × (u' ≡ again_pieces own m b (pieces_of l) d (use_line own b c l u))
    unfolding text_of
    read-other e x = read-else line.Other (λ q. let z : ◌≡◌ {A = ℕ} 0 1 = cc in absurd (omega arith)) e x

  -- ---- an entry b stays, so that it is the same whether it is put before lines are read or after

  places-over : (f : ℕ → ℕ) (b : ℕ) → f b ≡ b → (u : List ℕ) (i j : ℕ) → set (set u i b) j (f (get_or (set u i b) j 0)) ≡ set (set u j (f (get_or u j 0))) i b
  places-over f b e [] i j = refl
  places-over f b e (x ∷ u) zero zero = ap (λ (y : ℕ). y ∷ u) e
  places-over f b e (x ∷ u) zero (suc j) = refl
  places-over f b e (x ∷ u) (suc i) zero = refl
  places-over f b e (x ∷ u) (suc i) (suc j) = ap (λ (y : List ℕ). x ∷ y) (places-over f b e u i j)

  entry-over : (f : ℕ → ℕ) (b : ℕ) → f b ≡ b → (u : List ℕ) (i v : ℕ) → with_entry own v (f (entry_of own v (set u i b))) (set u i b) ≡ set (with_entry own v (f (entry_of own v u)) u) i b
  entry-over f b e u i v =
      ap (λ (n : ℕ). set (set u i b) (slot_of n own v) (f (get_or (set u i b) (slot_of n own v) 0))) (length-set u i b) ∙ places-over f b e u i (slot_of (length u) own v)

  module _ (b i : ℕ) where
    same_low : ltb b b ≡ false
    same_low = le-ltb b b (omega arith)

    name-over : (r : Option Register) (u : List ℕ) → read_name own b r (set u i b) ≡ set (read_name own b r u) i b
    name-over None u = refl
    name-over (Some q) u = entry-over (after_read b) b (rw same_low refl) u i q.0

    runs-over : (rs : List (List ℕ)) (u : List ℕ) → read_runs own b rs (set u i b) ≡ set (read_runs own b rs u) i b
    unfolding read_runs
    runs-over [] u = refl
    runs-over (r ∷ rs) u = ap (read_runs own b rs) (name-over (reg_of r) u) ∙ runs-over rs (read_name own b (reg_of r) u)

    store-over : (c : ℕ) (p : Line) (u : List ℕ) → store_line own b c p (set u i b) ≡ set (store_line own b c p u) i b
    store-over c line.Decl u = refl
    store-over c (line.Store s) u = entry-over (after_store b c) b (rw same_low refl) u i s.reg.0
    store-over c line.Other u = refl

    use-over : (c : ℕ) (l u : List ℕ) → use_line own b c l (set u i b) ≡ set (use_line own b c l u) i b
    unfolding use_line
    use-over c l u = ap (read_runs own b (runs (text_of l (parse_of l)))) (store-over c (parse_of l) u) ∙ runs-over (runs (text_of l (parse_of l))) (store_line own b c (parse_of l) u)

    uses-over : (k : ℕ) (ls : List (List ℕ)) (u : List ℕ) → use_lines own b k ls (set u i b) ≡ set (use_lines own b k ls u) i b
    unfolding use_lines
    uses-over k [] u = refl
    uses-over k (l ∷ ls) u = ap (use_lines own b (k + 1) ls) (use-over (k + 1) l u) ∙ uses-over (k + 1) ls (use_line own b (k + 1) l u)

  module _ (m b k : ℕ) (ls : List (List ℕ)) where
    again-over : (r : Option Register) (d u : List ℕ) → use_lines own b k ls (again_name own m b r d u) ≡ again_name own m b r d (use_lines own b k ls u)
    again-over None d u = refl
    again-over (Some q) d u = go (ltb (entry_of own q.0 d) m)
      where
        go : (t : Bool) → use_lines own b k ls (cond t u (with_entry own q.0 b u)) ≡ cond t (use_lines own b k ls u) (with_entry own q.0 b (use_lines own b k ls u))
        go true = refl
        go false = uses-over b (slot_of (length u) own q.0) k ls u ∙ ap (λ (n : ℕ). set (use_lines own b k ls u) (slot_of n own q.0) b) (sym (uses-length b k ls u))

    pieces-over : (ps : List (List ℕ)) (d u : List ℕ) → use_lines own b k ls (again_pieces own m b ps d u) ≡ again_pieces own m b ps d (use_lines own b k ls u)
    unfolding again_pieces
    pieces-over [] d u = refl
    pieces-over (p ∷ ps) d u =
        pieces-over ps (mark_name own m (reg_of (trim_of p)) d) (again_name own m b (reg_of (trim_of p)) d u)
        ∙ ap (again_pieces own m b ps (mark_name own m (reg_of (trim_of p)) d)) (again-over (reg_of (trim_of p)) d u)

  -- ---- the loop over the pieces of a declaration: those that are left are still to be seen

  pub record SeeInv (m b : ℕ) (ps left : List (List ℕ)) (d₀ u₀ d u : List ℕ) : Type 0 where
    pub long-d : length d ≡ length d₀
    pub long-u : length u ≡ length u₀
    pub seen : seen_pieces own m left d ≡ seen_pieces own m ps d₀
    pub again : again_pieces own m b left d u ≡ again_pieces own m b ps d₀ u₀

  pub see-start : {ps left : List (List ℕ)} (m b : ℕ) (d u : List ℕ) → left ≡ ps → SeeInv m b ps left d u d u
  see-start m b d u e = record {
    long-d = refl;
    long-u = refl;
    seen = ap (λ (qs : List (List ℕ)). seen_pieces own m qs d) e;
    again = ap (λ (qs : List (List ℕ)). again_pieces own m b qs d u) e;
  }

  seen-cons : (m : ℕ) (p : List ℕ) (ps : List (List ℕ)) (d : List ℕ) → seen_pieces own m (p ∷ ps) d ≡ seen_pieces own m ps (mark_name own m (reg_of (trim_of p)) d)
  unfolding seen_pieces
  seen-cons m p ps d = refl

  again-cons : (m b : ℕ) (p : List ℕ) (ps : List (List ℕ)) (d u : List ℕ) → again_pieces own m b (p ∷ ps) d u ≡ again_pieces own m b ps (mark_name own m (reg_of (trim_of p)) d) (again_name own m b (reg_of (trim_of p)) d u)
  unfolding again_pieces
  again-cons m b p ps d u = refl

  seen-nil : (m : ℕ) (d : List ℕ) → seen_pieces own m [] d ≡ d
  unfolding seen_pieces
  seen-nil m d = refl

  again-nil : (m b : ℕ) (d u : List ℕ) → again_pieces own m b [] d u ≡ u
  unfolding again_pieces
  again-nil m b d u = refl

  module _ {m b : ℕ} {ps left : List (List ℕ)} {d₀ u₀ d u : List ℕ} (h : SeeInv m b ps left d₀ u₀ d u) where
    pub see-on : {w : List ℕ} {more : List (List ℕ)} → left ≡ w ∷ more → (t : List ℕ) → t ≡ trim_of w → {d' u' : List ℕ} → d' ≡ mark_name own m (reg_of t) d → u' ≡ again_name own m b (reg_of t) d u →
        SeeInv m b ps more d₀ u₀ d' u'
    see-on {w} {more} e t z {d'} {u'} x y =
        let here-d : mark_name own m (reg_of (trim_of w)) d ≡ d' = ap (λ (r : List ℕ). mark_name own m (reg_of r) d) (sym z) ∙ sym x in
        let here-u : again_name own m b (reg_of (trim_of w)) d u ≡ u' = ap (λ (r : List ℕ). again_name own m b (reg_of r) d u) (sym z) ∙ sym y in
        record {
          long-d = ap length x ∙ name-length own m (reg_of t) d ∙ h.long-d;
          long-u = ap length y ∙ again-length m b (reg_of t) d u ∙ h.long-u;
          seen = sym (ap (λ (qs : List (List ℕ)). seen_pieces own m qs d) e ∙ seen-cons m w more d ∙ ap (seen_pieces own m more) here-d) ∙ h.seen;
          again =
              sym (ap (λ (qs : List (List ℕ)). again_pieces own m b qs d u) e ∙ again-cons m b w more d u
              ∙ ap (λ (c : List ℕ). again_pieces own m b more c (again_name own m b (reg_of (trim_of w)) d u)) here-d ∙ ap (again_pieces own m b more d') here-u)
              ∙ h.again;
        }

    pub see-end : left ≡ [] → (d ≡ seen_pieces own m ps d₀) × (u ≡ again_pieces own m b ps d₀ u₀)
    see-end e = (
      sym (ap (λ (qs : List (List ℕ)). seen_pieces own m qs d) e ∙ seen-nil m d) ∙ h.seen,
      sym (ap (λ (qs : List (List ℕ)). again_pieces own m b qs d u) e ∙ again-nil m b d u) ∙ h.again,
    )

  -- ---- a line

  module _ (m b : ℕ) (l t : List ℕ) (z : t ≡ trim_of l) (d u : List ℕ) where
    pub see-decl : is_decl t ≡ true → (body : List ℕ) → body ≡ body_of t → {d' u' : List ℕ} → d' ≡ seen_pieces own m (parts_of 44 body) d → u' ≡ again_pieces own m b (parts_of 44 body) d u → (d' ≡ seen_pieces own m (pieces_of l) d) × (u' ≡ again_pieces own m b (pieces_of l) d u)
    unfolding pieces_of
    see-decl e body x {d'} {u'} p q =
        let y : pieces_of l ≡ parts_of 44 body = rw (← z, e, x) in
        (p ∙ ap (λ (ps : List (List ℕ)). seen_pieces own m ps d) (sym y), q ∙ ap (λ (ps : List (List ℕ)). again_pieces own m b ps d u) (sym y))

  -- ---- the loop over lines: those from i on are still to be read, and the first of them has the row k

  pub record ReadsInv (m b n : ℕ) (s d₀ u₀ d u : List ℕ) (i k : ℕ) : Type 0 where
    pub long-d : length d ≡ length d₀
    pub long-u : length u ≡ length u₀
    pub count : k + length (lines_of (drop i s)) ≡ n + length (lines_of s)
    pub seen : seen_lines own m (lines_of (drop i s)) d ≡ seen_lines own m (lines_of s) d₀
    pub again : again_lines own m b (lines_of (drop i s)) d (use_lines own b k (lines_of (drop i s)) u) ≡ again_lines own m b (lines_of s) d₀ (use_lines own b n (lines_of s) u₀)

  pub reads-start : (m b n : ℕ) (s d u : List ℕ) → ReadsInv m b n s d u d u 0 n
  reads-start m b n s d u = record { long-d = refl; long-u = refl; count = refl; seen = refl; again = refl }

  sees-cons : (m : ℕ) (l : List ℕ) (ls : List (List ℕ)) (d : List ℕ) → seen_lines own m (l ∷ ls) d ≡ seen_lines own m ls (seen_pieces own m (pieces_of l) d)
  unfolding seen_lines
  sees-cons m l ls d = refl

  reads-cons : (m b k : ℕ) (l : List ℕ) (ls : List (List ℕ)) (d u : List ℕ) →
      again_lines own m b (l ∷ ls) d (use_lines own b k (l ∷ ls) u) ≡ again_lines own m b ls (seen_pieces own m (pieces_of l) d) (use_lines own b (k + 1) ls (again_pieces own m b (pieces_of l) d (use_line own b (k + 1) l u)))
  unfolding again_lines use_lines
  reads-cons m b k l ls d u = ap (again_lines own m b ls (seen_pieces own m (pieces_of l) d)) (sym (pieces-over m b (k + 1) ls (pieces_of l) d (use_line own b (k + 1) l u)))

  sees-nil : (m : ℕ) (d : List ℕ) → seen_lines own m [] d ≡ d
  unfolding seen_lines
  sees-nil m d = refl

  reads-nil : (m b k : ℕ) (d u : List ℕ) → again_lines own m b [] d (use_lines own b k [] u) ≡ u
  unfolding again_lines use_lines
  reads-nil m b k d u = refl

  module _ {m b n : ℕ} {s d₀ u₀ d u : List ℕ} {i k : ℕ} (h : ReadsInv m b n s d₀ u₀ d u i k) where
    pub reads-room : i < length s → n + length (lines_of s) < 2 ^ 64 → k + 1 < 2 ^ 64
    reads-room l w = omega (arith, h.count, ap length (lines-at s i (i + up_to 10 (drop i s)) l refl))

    module _ (e j : ℕ) (l : List ℕ) (w : i < length s) (q : e ≡ i + up_to 10 (drop i s)) (p : l ≡ part i e s) (z : j ≡ min (e + 1) (length s)) where
      lines-here : lines_of (drop i s) ≡ l ∷ lines_of (drop j s)
      lines-here = lines-at s i e w q ∙ rw (← p, ← z)

      pub reads_on : {d' u' : List ℕ} → d' ≡ seen_pieces own m (pieces_of l) d → u' ≡ again_pieces own m b (pieces_of l) d (use_line own b (k + 1) l u) → ReadsInv m b n s d₀ u₀ d' u' j (k + 1)
      reads_on {d'} {u'} x y = record {
        long-d = ap length x ∙ seen-pieces-length m (pieces_of l) d ∙ h.long-d;
        long-u = ap length y ∙ again-pieces-length m b (pieces_of l) d (use_line own b (k + 1) l u) ∙ use-length b (k + 1) l u ∙ h.long-u;
        count = omega (arith, h.count, ap length lines-here);
        seen = ap (seen_lines own m (lines_of (drop j s))) x ∙ sym (ap (λ (ls : List (List ℕ)). seen_lines own m ls d) lines-here ∙ sees-cons m l (lines_of (drop j s)) d) ∙ h.seen;
        again =
            ap (λ (c : List ℕ). again_lines own m b (lines_of (drop j s)) c (use_lines own b (k + 1) (lines_of (drop j s)) u')) x
            ∙ ap (λ (c : List ℕ). again_lines own m b (lines_of (drop j s)) (seen_pieces own m (pieces_of l) d) (use_lines own b (k + 1) (lines_of (drop j s)) c)) y
            ∙ sym (ap (λ (ls : List (List ℕ)). again_lines own m b ls d (use_lines own b k ls u)) lines-here ∙ reads-cons m b k l (lines_of (drop j s)) d u) ∙ h.again;
      }

    pub reads-done : length s ≤ i → (d ≡ seen_lines own m (lines_of s) d₀) × (u ≡ again_lines own m b (lines_of s) d₀ (use_lines own b n (lines_of s) u₀))
    reads-done w = (
      sym (sees-nil m d) ∙ ap (λ (ls : List (List ℕ)). seen_lines own m ls d) (sym (lines_end s i w)) ∙ h.seen,
      sym (reads-nil m b k d u) ∙ ap (λ (ls : List (List ℕ)). again_lines own m b ls d (use_lines own b k ls u)) (sym (lines_end s i w)) ∙ h.again,
    )

  -- ---- a region, read where it begins

  module _ (t : List ℕ) (a i e k : ℕ) (d u : List ℕ) where
    pub region-kept : a < i → (d ≡ seen_at own t a i e d) × (u ≡ first_at own t a i e k d u)
    unfolding seen_at first_at
    region-kept h = let z = lt-ltb a i h in (sym (rw z), sym (rw z))

    pub region-read : i ≤ a → (run : List ℕ) → run ≡ part a e t → {u₁ d₁ : List ℕ} → d₁ ≡ seen_lines own (a + 1) (lines_of run) d → u₁ ≡ again_lines own (a + 1) (k + 1) (lines_of run) d (use_lines own (k + 1) k (lines_of run) u) →
        (d₁ ≡ seen_at own t a i e d) × (u₁ ≡ first_at own t a i e k d u)
    unfolding seen_at first_at
    region-read h run y {u₁} {d₁} q r =
        let z = le-ltb a i h in (
          q ∙ ap (λ (x : List ℕ). seen_lines own (a + 1) (lines_of x) d) y ∙ sym (rw z),
          r ∙ ap (λ (x : List ℕ). again_lines own (a + 1) (k + 1) (lines_of x) d (use_lines own (k + 1) k (lines_of x) u)) y ∙ sym (rw z),
        )

    pub seen-at-length : length (seen_at own t a i e d) ≡ length d
    unfolding seen_at
    seen-at-length = go (ltb a i)
      where
        go : (b : Bool) → length (cond b d (seen_lines own (a + 1) (lines_of (part a e t)) d)) ≡ length d
        go true = refl
        go false = seen-length (a + 1) (lines_of (part a e t)) d

    pub first-at-length : length (first_at own t a i e k d u) ≡ length u
    unfolding first_at
    first-at-length = go (ltb a i)
      where
        go : (b : Bool) → length (cond b u (again_lines own (a + 1) (k + 1) (lines_of (part a e t)) d (use_lines own (k + 1) k (lines_of (part a e t)) u))) ≡ length u
        go true = refl
        go false = agains-length (a + 1) (k + 1) (lines_of (part a e t)) d (use_lines own (k + 1) k (lines_of (part a e t)) u) ∙ uses-length (k + 1) k (lines_of (part a e t)) u

-- ---- the question, arm by arm

module _ (bs ss : List ℕ) (a k x y : ℕ) where
  pub ask-none : x ≤ a → false ≡ asked bs ss a k x y
  unfolding asked
  ask-none h = sym (rw (le-ltb a x h))

  module _ (h : a < x) where
    pub ask-above : y ≤ k + 1 → false ≡ asked bs ss a k x y
    unfolding asked
    ask-above g = sym (rw (lt-ltb a x h, le-ltb (k + 1) y g))

    module _ (g : k + 1 < y) where
      pub ask-block : (get_or bs (y - 1) 0 ≡ get_or bs k 0 → ⊥) → false ≡ asked bs ss a k x y
      unfolding asked
      ask-block n = sym (rw (lt-ltb a x h, lt-ltb (k + 1) y g, ne_eqb _ _ n))

      pub ask-start : get_or bs (y - 1) 0 ≡ get_or bs k 0 → eqb (get_or ss (y - 1) 0) 1 ≡ asked bs ss a k x y
      unfolding asked
      ask-start n = sym (rw (lt-ltb a x h, lt-ltb (k + 1) y g, eq-eqb _ _ n))
