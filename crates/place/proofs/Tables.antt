-- The loop that notes a block for each line, for any reading of braces, and the functions of `block_paths`. Assumes nothing.
use Prim.Native.Nat.{ℕ, ◌+◌, ◌-◌, ◌≤◌, ◌<◌, ◌^◌, min}
use mathlib.Core.Path.{◌≡◌, refl, sym, ap, ◌∙◌, subst}
use mathlib.Core.Bool.{true, false}
use mathlib.Core.List.{List, [], ◌∷◌, ◌++◌, append_assoc, append-nil}
use native.Mathlib.Omega.{arith}
use lib.ListN.{length, set, take, drop, replicate}
use lib.Dec.{eqb}
use Rattle.lines.specs.Lf.{part, up_to, count_of, prefixed, ends_in, lines_of}
use Rattle.lines.proofs.Tests.{no, and_left, eqb-sym}
use Rattle.lines.proofs.LfLaws.{lines-at, lines_end}
use Rattle.lines.proofs.OutLaws.{Writing, writing_start, writing-as, writing-room, writing-length}
use Rattle.text.specs.Trim.{trim_of}
use Rattle.place.specs.Blocks.{Brace, opens, closes}
use Rattle.place.specs.Paths.{path_closes, block_paths, tops}
use Rattle.place.specs.Inner.Fill.{Filled}
use Rattle.place.specs.Inner.Parents.{cur_by, ups_by, Room, Moved, notes_go, flat, path_pre, path_open, path_post, path_parents}
use Rattle.place.proofs.Fills.{entry-on, entry-end, filled-as}
use Rattle.place.proofs.Parents.{moved_none, moved_then, moved-take, moved_as, moved-closes, room_as, room-first, room-then, room-length, notes-length, path-notes}

-- ---- the loop

module _ (pre post : List ℕ → List Brace) where
  -- over rows, of which `todo` are left
  pub record RowsInv (rows todo : List (List ℕ)) (d₀ d u₀ u : List ℕ) (k c n : ℕ) : Type 0 where
    pub table : Writing 0 (notes_go pre post rows 0 []) (notes_go pre post todo c (take n u)) d₀ d k
    pub room : Room (flat pre post rows) 0 u₀ 0
    pub read : List Brace
    pub moved : Moved read 0 u₀ 0 c u n
    pub left : read ++ flat pre post todo ≡ flat pre post rows

  pub rows_start : (rows : List (List ℕ)) (d u : List ℕ) → length rows ≤ length d → length (ups_by (flat pre post rows) 0 []) ≤ length u → length u < 2 ^ 32 →
      RowsInv rows rows d d u u 0 0 0
  rows_start rows d u p q r = record {
    table = writing_start 0 (notes_go pre post rows 0 []) d (omega (arith, notes-length pre post rows 0 []));
    room = record { known = omega arith; fits = q; small = r };
    read = [];
    moved = moved_none 0 u 0 (omega arith);
    left = refl;
  }

  module _ {rows todo : List (List ℕ)} {d₀ d u₀ u : List ℕ} {k c n : ℕ} (h : RowsInv rows todo d₀ d u₀ u k c n) where
    pub rows-length : length d ≡ length d₀
    rows-length = writing-length h.table

    here-room : Room (h.read ++ flat pre post todo) 0 u₀ 0
    here-room = room_as (sym h.left) h.room

    pub rows-up : length u ≡ length u₀
    rows-up = room-length h.read (flat pre post todo) here-room h.moved

    module _ {l : List ℕ} {more : List (List ℕ)} (w : todo ≡ l ∷ more) where
      on-notes : notes_go pre post todo c (take n u)
          ≡ cur_by (pre l) c (take n u) ∷ notes_go pre post more (cur_by (pre l ++ post l) c (take n u)) (ups_by (pre l ++ post l) c (take n u))
      unfolding notes_go
      on-notes = ap (λ (ls : List (List ℕ)). notes_go pre post ls c (take n u)) w

      on-flat : flat pre post todo ≡ (pre l ++ post l) ++ flat pre post more
      unfolding flat
      on-flat = ap (flat pre post) w

      pub rows-place : k < length d
      rows-place = let p = writing-room (writing-as on-notes h.table) in omega arith

      pub rows-room : Room (pre l ++ post l) c u n
      rows-room = room-first (pre l ++ post l) (flat pre post more) (room_as on-flat (room-then h.read (flat pre post todo) here-room h.moved))

      pub rows_on : {b c' : ℕ} {u' : List ℕ} {n' : ℕ} → b ≡ cur_by (pre l) c (take n u) → Moved (pre l ++ post l) c u n c' u' n' → RowsInv rows more d₀ (set d k b) u₀ u' (k + 1) c' n'
      rows_on {b} {c'} {u'} {n'} x m =
          let bs : List Brace = pre l ++ post l in
          let notes : notes_go pre post todo c (take n u) ≡ b ∷ notes_go pre post more c' (take n' u') =
          on-notes
          ∙ ap (λ (v : ℕ). v ∷ notes_go pre post more (cur_by bs c (take n u)) (ups_by bs c (take n u))) (sym x)
          ∙ ap (λ (v : ℕ). b ∷ notes_go pre post more v (ups_by bs c (take n u))) (sym m.cur)
          ∙ ap (λ (v : List ℕ). b ∷ notes_go pre post more c' v) (sym (moved-take m)) in
          record {
            table = entry-on b (writing-as notes h.table);
            room = h.room;
            read = h.read ++ bs;
            moved = moved_then h.moved m;
            left = append_assoc h.read bs (flat pre post more) ∙ ap (λ (v : List Brace). h.read ++ v) (sym on-flat) ∙ h.left;
          }

    pub rows-done : todo ≡ [] → Filled d₀ (notes_go pre post rows 0 []) d k
        × Filled u₀ (ups_by (flat pre post rows) 0 []) u (length (ups_by (flat pre post rows) 0 []))
    unfolding notes_go flat
    rows-done z =
        let a : h.read ≡ flat pre post rows = sym (append-nil h.read) ∙ ap (λ (ls : List (List ℕ)). h.read ++ flat pre post ls) (sym z) ∙ h.left in
        let m = moved_as a h.moved in (
          entry-end (ap (λ (ls : List (List ℕ)). notes_go pre post ls c (take n u)) z) h.table,
          subst (λ (v : ℕ). Filled u₀ (ups_by (flat pre post rows) 0 []) u v) m.filled.place m.filled,
        )

  -- over the lines of a text, from the place i on
  pub record LinesInv (t d₀ d u₀ u : List ℕ) (i k c n : ℕ) : Type 0 where
    pub i≤ : i ≤ length t
    pub rows : RowsInv (lines_of t) (lines_of (drop i t)) d₀ d u₀ u k c n

  pub lines_start : (t d u : List ℕ) → length (lines_of t) ≤ length d → length (ups_by (flat pre post (lines_of t)) 0 []) ≤ length u → length u < 2 ^ 32 →
      LinesInv t d d u u 0 0 0 0
  lines_start t d u p q r = record { i≤ = omega arith; rows = rows_start (lines_of t) d u p q r }

  module _ {t d₀ d u₀ u : List ℕ} {i k c n : ℕ} (h : LinesInv t d₀ d u₀ u i k c n) where
    pub lines-length : length d ≡ length d₀
    lines-length = rows-length h.rows

    pub lines-up : length u ≡ length u₀
    lines-up = rows-up h.rows

    module _ (q : i < length t) (e : ℕ) (z : e ≡ i + up_to 10 (drop i t)) where
      pub lines-place : k < length d
      lines-place = rows-place h.rows (lines-at t i e q z)

      pub lines-room : Room (pre (part i e t) ++ post (part i e t)) c u n
      lines-room = rows-room h.rows (lines-at t i e q z)

      pub lines-on : {b c' : ℕ} {u' : List ℕ} {n' j : ℕ} → b ≡ cur_by (pre (part i e t)) c (take n u) → Moved (pre (part i e t) ++ post (part i e t)) c u n c' u' n' →
          j ≡ min (e + 1) (length t) → LinesInv t d₀ (set d k b) u₀ u' j (k + 1) c' n'
      lines-on x m y = record { i≤ = omega arith; rows = rows_on h.rows (lines-at t i e q z ∙ ap (λ (v : ℕ). part i e t ∷ lines_of (drop v t)) (sym y)) x m }

    pub lines-done : length t ≤ i → Filled d₀ (notes_go pre post (lines_of t) 0 []) d k
        × Filled u₀ (ups_by (flat pre post (lines_of t)) 0 []) u (length (ups_by (flat pre post (lines_of t)) 0 []))
    lines-done q = rows-done h.rows (lines_end t i q)

-- ---- the end of a trimmed line

pub open_none : (t : List ℕ) → length t ≡ 0 → false ≡ ends_in 123 t
open_none [] h = refl
open_none (x ∷ t) h = absurd (omega arith)

-- ---- how many blocks a line closes

pub closes-none : (t : List ℕ) → prefixed (125 ∷ []) t ≡ false → 0 ≡ path_closes t
unfolding path_closes
closes-none t e = rw e

module _ (t : List ℕ) (e : prefixed (125 ∷ []) t ≡ true) where
  pub closes-some : 1 ≤ count_of 125 t
  unfolding count_of prefixed
  closes-some = go t e
    where
      here : (x : ℕ) (xs : List ℕ) → eqb x 125 ≡ true → 1 ≤ count_of 125 (x ∷ xs)
      here x xs q = rw q (omega arith)

      go : (s : List ℕ) → prefixed (125 ∷ []) s ≡ true → 1 ≤ count_of 125 s
      go [] h = no h
      go (x ∷ s) h = here x s (eqb-sym x 125 ∙ and_left (eqb 125 x) (prefixed [] s) h)

  pub closes-all : ends_in 123 t ≡ false → count_of 125 t ≡ path_closes t
  unfolding path_closes
  closes-all f = rw (e, f) (omega arith)

  pub closes-less : ends_in 123 t ≡ true → count_of 125 t - 1 ≡ path_closes t
  unfolding path_closes
  closes-less f = rw (e, f)

-- ---- the block that a line opens

pub open-yes : (t : List ℕ) → ends_in 123 t ≡ true → path_open t ≡ opens ∷ []
unfolding path_open
open-yes t e = rw e

pub open_no : (t : List ℕ) → ends_in 123 t ≡ false → path_open t ≡ []
unfolding path_open
open_no t e = rw e

-- ---- a line of `block_paths`

module _ (l t : List ℕ) (p : t ≡ trim_of l) {c : ℕ} {u : List ℕ} {n : ℕ} (r : Room (path_pre l ++ path_post l) c u n) {b k : ℕ}
    (x : k ≡ path_closes t) (y : b ≡ cur_by (replicate k closes) c (take n u)) where
  pub path-cur : b ≡ cur_by (path_pre l) c (take n u)
  unfolding path_pre
  path-cur = y ∙ ap (λ (m : ℕ). cur_by (replicate m closes) c (take n u)) (x ∙ ap path_closes p)

  path-pre : Moved (path_pre l) c u n b u n
  unfolding path_pre
  path-pre = moved-closes (path_closes (trim_of l)) c u n b r.known path-cur

  pub path_room : Room (path_open t) b u n
  unfolding path_post
  path_room = room_as (ap path_open (sym p)) (room-then (path_pre l) (path_post l) r path-pre)

  pub path-moved : {c' : ℕ} {u' : List ℕ} {n' : ℕ} → Moved (path_open t) b u n c' u' n' → Moved (path_pre l ++ path_post l) c u n c' u' n'
  unfolding path_post
  path-moved m = moved_then path-pre (moved_as (ap path_open p) m)

-- what the loop of `block_paths` leaves
pub paths-done : (t : List ℕ) {d₀ d u₀ u : List ℕ} {k : ℕ} →
    Filled d₀ (notes_go path_pre path_post (lines_of t) 0 []) d k × Filled u₀ (ups_by (flat path_pre path_post (lines_of t)) 0 []) u (length (ups_by (flat path_pre path_post (lines_of t)) 0 [])) →
    Filled d₀ (tops (block_paths (lines_of t))) d k × Filled u₀ (path_parents (lines_of t)) u (length (path_parents (lines_of t)))
unfolding path_parents
paths-done t f = (filled-as (path-notes (lines_of t)) f.0, f.1)
