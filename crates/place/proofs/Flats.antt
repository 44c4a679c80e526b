-- The lines of `block_paths`: flat ones, loops and ends on the way. Assumes nothing.
use Prim.Native.Nat.{ℕ, zero, suc, ◌+◌, ◌-◌, ◌≤◌, ◌<◌, ◌^◌, min}
use mathlib.Core.Path.{◌≡◌, refl, sym, ap, ◌∙◌}
use mathlib.Core.Bool.{Bool, true, false, not, ◌&&◌, ◌||◌, or_assoc}
use mathlib.Core.List.{List, [], ◌∷◌, ◌++◌}
use native.Mathlib.Omega.{arith}
use native.Mathlib.Numerals.{add-one}
use borrow.Author.Tests.{not-true, ltb-true, ltb-false}
use lib.ListN.{length, get_or, set, take, drop, replicate, length-set, length-drop}
use lib.Seq.{get_or-drop, length-take-le}
use lib.Dec.{eqb, ltb}
use Rattle.lines.specs.Lf.{part, up_to, prefixed, ends_in, lines_of}
use Rattle.lines.proofs.Tests.{or-false, and_left, and_right, eqb-sym}
use Rattle.lines.proofs.LfLaws.{lines-at, lines_end, find-le}
use Rattle.text.specs.Trim.{from_of, to_of, trim_of}
use Rattle.place.specs.Blocks.{Brace, closes}
use Rattle.place.specs.Paths.{block_paths, tops}
use Rattle.place.specs.Inner.Paths.{flat_end, is_flat}
use Rattle.place.specs.Inner.Loops.{starts_loop, some_loop}
use Rattle.place.specs.Inner.Ends.{ends_from}
use Rattle.place.specs.Inner.Fill.{Filled}
use Rattle.place.specs.Inner.Parents.{cur_by, Room, Moved, path_pre, path_post, path_parents}
use Rattle.place.proofs.Parents.{moved_none, moved_as}
use Rattle.place.proofs.Quiet.{starts-not, low_end}
use Rattle.place.proofs.Tables.{LinesInv, lines_start, lines-on, lines-done, closes-none, open_no, paths-done}

-- ---- a flat line

pub flat-none : (l : List ℕ) → length l ≡ 0 → false ≡ is_flat l
unfolding is_flat
flat-none [] h = refl
flat-none (x ∷ l) h = absurd (omega arith)

pub flat-not : (l : List ℕ) → flat_end (get_or l (length l - 1) 0) ≡ false → false ≡ is_flat l
unfolding is_flat
flat-not l e = sym (ap (λ (b : Bool). b && not (eqb (get_or l (from_of l) 0) 125)) e)

pub flat-by : (l : List ℕ) (x : ℕ) → flat_end (get_or l (length l - 1) 0) ≡ true → x ≡ get_or l (from_of l) 0 → not (eqb x 125) ≡ is_flat l
unfolding is_flat
flat-by l x e q = ap (λ (y : ℕ). not (eqb y 125)) q ∙ sym (ap (λ (b : Bool). b && not (eqb (get_or l (from_of l) 0) 125)) e)

-- what is not at the front of a text is not at the front of a part of it
front-not : (n : ℕ) (s : List ℕ) → eqb (get_or s 0 0) 125 ≡ false → prefixed (125 ∷ []) (take n s) ≡ false
unfolding prefixed
front-not zero s e = refl
front-not (suc n) [] e = refl
front-not (suc n) (x ∷ s) e = rw (eqb-sym 125 x ∙ e)

module _ (l : List ℕ) (f : is_flat l ≡ true) where
  flat-end : ends_in 123 (trim_of l) ≡ false
  unfolding is_flat
  flat-end = low_end l (get_or l (length l - 1) 0) refl (and_left (flat_end (get_or l (length l - 1) 0)) (not (eqb (get_or l (from_of l) 0) 125)) f)

  flat-front : prefixed (125 ∷ []) (trim_of l) ≡ false
  unfolding is_flat trim_of
  flat-front =
      let z : from_of l + 0 ≡ from_of l = omega arith in
      let v : get_or (drop (from_of l) l) 0 0 ≡ get_or l (from_of l) 0 = get_or-drop (from_of l) l 0 0 ∙ ap (λ (i : ℕ). get_or l i 0) z in
      front-not (to_of (drop (from_of l) l)) (drop (from_of l) l)
      (ap (λ (x : ℕ). eqb x 125) v ∙ not-true (eqb (get_or l (from_of l) 0) 125) (and_right (flat_end (get_or l (length l - 1) 0)) (not (eqb (get_or l (from_of l) 0) 125)) f))

  flat-pre : [] ≡ path_pre l
  unfolding path_pre
  flat-pre = ap (λ (k : ℕ). replicate k closes) (closes-none (trim_of l) flat-front)

  flat-all : [] ≡ path_pre l ++ path_post l
  unfolding path_post
  flat-all = sym (open_no (trim_of l) flat-end) ∙ ap (λ (bs : List Brace). bs ++ path_post l) flat-pre

  -- it leaves all as it is
  pub flat_line : (b : Bool) {c : ℕ} {u : List ℕ} {n : ℕ} → Room (path_pre l ++ path_post l) c u n →
      (c ≡ cur_by (path_pre l) c (take n u)) × (Moved (path_pre l ++ path_post l) c u n c u n × (b ≡ b || starts_loop l))
  unfolding cur_by
  flat_line b {c} {u} {n} r = (
    ap (λ (bs : List Brace). cur_by bs c (take n u)) flat-pre,
    (moved_as flat-all (moved_none c u n r.known), sym (or-false b) ∙ ap (λ (x : Bool). b || x) (sym (starts-not l flat-end))),
  )

-- ---- the loop

pub record PathsInv (t d₀ d u₀ u s₀ s : List ℕ) (i k c n : ℕ) (b : Bool) : Type 0 where
  pub lines : LinesInv path_pre path_post t d₀ d u₀ u i k c n
  pub loops : b || some_loop (lines_of (drop i t)) ≡ some_loop (lines_of t)
  pub ends : ends_from k i (lines_of (drop i t)) s ≡ ends_from 0 0 (lines_of t) s₀
  pub long : length s ≡ length s₀

pub paths-start : (t d u s : List ℕ) → length (lines_of t) ≤ length d → length (path_parents (lines_of t)) ≤ length u → length u < 2 ^ 32 →
    PathsInv t d d u u s s 0 0 0 0 false
unfolding path_parents
paths-start t d u s p q r = record { lines = lines_start path_pre path_post t d u p q r; loops = refl; ends = refl; long = refl }

module _ {t d₀ d u₀ u s₀ s : List ℕ} {i k c n : ℕ} {b : Bool} (h : PathsInv t d₀ d u₀ u s₀ s i k c n b) where
  module _ (q : i < length t) (e : ℕ) (z : e ≡ i + up_to 10 (drop i t)) {j : ℕ} (y : j ≡ min (e + 1) (length t)) where
    rest : lines_of (drop i t) ≡ part i e t ∷ lines_of (drop j t)
    rest = lines-at t i e q z ∙ ap (λ (m : ℕ). part i e t ∷ lines_of (drop m t)) (sym y)

    loops-on : {b' : Bool} → b' ≡ b || starts_loop (part i e t) → b' || some_loop (lines_of (drop j t)) ≡ some_loop (lines_of t)
    unfolding some_loop
    loops-on {b'} x =
        ap (λ (a : Bool). a || some_loop (lines_of (drop j t))) x
        ∙ or_assoc b (starts_loop (part i e t)) (some_loop (lines_of (drop j t)))
        ∙ ap (λ (ls : List (List ℕ)). b || some_loop ls) (sym rest)
        ∙ h.loops

    -- past the last line it does not matter where one would begin
    ends-past : (v : List ℕ) → ends_from (k + 1) j (lines_of (drop j t)) v ≡ ends_from (k + 1) (e + 1) (lines_of (drop j t)) v
    unfolding ends_from
    ends-past v = go (ltb e (length t)) refl
      where
        go : (a : Bool) → ltb e (length t) ≡ a → ends_from (k + 1) j (lines_of (drop j t)) v ≡ ends_from (k + 1) (e + 1) (lines_of (drop j t)) v
        go true g =
            let m : e < length t = ltb-true e (length t) g in
            let w : j ≡ e + 1 = omega arith in
            ap (λ (m : ℕ). ends_from (k + 1) m (lines_of (drop j t)) v) w
        go false g =
            let m : length t ≤ e = ltb-false e (length t) g in
            let w : length t ≤ j = omega arith in
            rw (lines_end t j w)

    ends_on : ends_from (k + 1) j (lines_of (drop j t)) (set s k e) ≡ ends_from 0 0 (lines_of t) s₀
    unfolding ends_from
    ends_on =
        let o : e ≤ length t = find-le 10 t i e (omega arith) z in
        let p : length (part i e t) ≡ e - i = length-take-le (e - i) (drop i t) (simp length-drop (omega arith)) in
        let w : i + length (part i e t) ≡ e = omega arith in
        ends-past (set s k e)
        ∙ ap (λ (m : ℕ). ends_from m (e + 1) (lines_of (drop j t)) (set s k e)) (add-one k)
        ∙ ap (λ (m : ℕ). ends_from (suc k) (m + 1) (lines_of (drop j t)) (set s k m)) (sym w)
        ∙ ap (λ (ls : List (List ℕ)). ends_from k i ls s) (sym rest)
        ∙ h.ends

    pub paths-on : {x x' c' : ℕ} {u' : List ℕ} {n' : ℕ} {b' : Bool} {s' : List ℕ} →
        s' ≡ set s k e → x' ≡ x →
        (x ≡ cur_by (path_pre (part i e t)) c (take n u)) × (Moved (path_pre (part i e t) ++ path_post (part i e t)) c u n c' u' n' × (b' ≡ b || starts_loop (part i e t))) →
        PathsInv t d₀ (set d k x') u₀ u' s₀ s' j (k + 1) c' n' b'
    paths-on g a m = record {
      lines = lines-on path_pre path_post h.lines q e z (a ∙ m.0) m.1.0 y;
      loops = loops-on m.1.1;
      ends = ap (λ (v : List ℕ). ends_from (k + 1) j (lines_of (drop j t)) v) g ∙ ends_on;
      long = ap length g ∙ length-set s k e ∙ h.long;
    }

  pub paths-all : length t ≤ i → (Filled d₀ (tops (block_paths (lines_of t))) d k × Filled u₀ (path_parents (lines_of t)) u (length (path_parents (lines_of t))))
      × ((b ≡ some_loop (lines_of t)) × (s ≡ ends_from 0 0 (lines_of t) s₀))
  unfolding some_loop ends_from
  paths-all q =
      let z = lines_end t i q in (
        paths-done t (lines-done path_pre path_post h.lines q),
        (sym (or-false b) ∙ ap (λ (ls : List (List ℕ)). b || some_loop ls) (sym z) ∙ h.loops, ap (λ (ls : List (List ℕ)). ends_from k i ls s) (sym z) ∙ h.ends),
      )
