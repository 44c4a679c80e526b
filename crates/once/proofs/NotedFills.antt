-- Laws of filling the table of marks by what the tables over registers say. Assumes nothing.
use Prim.Native.Nat.{ℕ, ◌+◌, ◌<◌, min}
use mathlib.Core.Path.{◌≡◌, refl, sym, ap, subst, ◌∙◌}
use mathlib.Core.Bool.{Bool, true, false}
use mathlib.Core.List.{List, ◌∷◌}
use native.Mathlib.Omega.{arith}
use borrow.Author.Tests.{ltb-true, ltb-false}
use lib.Dec.{ltb}
use lib.ListN.{length, drop, get_or}
use lib.Seq.{drop-drop}
use Rattle.lines.specs.Lf.{part, up_to, lines_of}
use Rattle.lines.proofs.LfLaws.{lines-at, lines_end, find-end, part_none, rest_of}
use Rattle.place.specs.Region.{region, region_at}
use Rattle.reading.specs.Reading.{Reading}
use Rattle.once.specs.Inner.Tables.{is_set, first_drops, first_mark, area_at}
use Rattle.once.specs.Inner.Noted.{RowAt, area_of, told, KindIs, DropBy, SendBy, first_line, NotesOf, OneBy, OneOf}
use Rattle.once.proofs.Fills.{lines_at, area-run, mark-stays, first-stays}
use Rattle.once.proofs.Told.{told-takes, settled-first, told-settled}
use Rattle.once.proofs.AreaLaws.{AreaInv, area-first, area-next, area-here}

-- ---- the tables of a text, row by row

pub rows_start : (t : List ℕ) → lines_of (drop 0 t) ≡ drop 0 (lines_of t)
rows_start t = refl

module _ (t : List ℕ) (i k e j : ℕ) (rows : lines_of (drop i t) ≡ drop k (lines_of t)) (h : i < length t) (q : e ≡ i + up_to 10 (drop i t)) (z : j ≡ min (e + 1) (length t)) where
  pub rows_on : lines_of (drop j t) ≡ drop (k + 1) (lines_of t)
  rows_on =
      ap (λ (n : ℕ). lines_of (drop n t)) z
      ∙ ap (λ (ls : List (List ℕ)). drop 1 ls) (sym (lines-at t i e h q) ∙ rows)
      ∙ drop-drop 1 k (lines_of t)

-- ---- the regions

pub area-begin : (t : List ℕ) → AreaInv (lines_of t) 0 (lines_at t 0)
area-begin t = area-first (lines_of t)

module _ (t : List ℕ) (i k e j : ℕ) (h : i < length t) (q : e ≡ i + up_to 10 (drop i t)) (z : j ≡ min (e + 1) (length t)) (rows : lines_of (drop i t) ≡ drop k (lines_of t))
    (w w' : ℕ) (a : w' ≡ area_at t i e w) (v : AreaInv (lines_of t) k (lines_at t w)) where
  area-is : lines_at t w' ≡ region_at (part i e t) (lines_of (drop (min (e + 1) (length t)) t)) (lines_at t w)
  area-is = ap (lines_at t) a ∙ area-run t i e w h q

  row_is : drop k (lines_of t) ≡ part i e t ∷ lines_of (drop (min (e + 1) (length t)) t)
  row_is = sym rows ∙ lines-at t i e h q

  pub area-after : AreaInv (lines_of t) (k + 1) (lines_at t w')
  area-after = subst (AreaInv (lines_of t) (k + 1)) (sym area-is) (area-next (lines_of t) k (lines_at t w) v (part i e t) _ row_is (sym (rows_on t i k e (min (e + 1) (length t)) rows h q refl)))

  -- what the note says of the region
  pub one_at : (d : List ℕ) → OneOf (lines_of t) d → OneBy (part i e t) (lines_at t w') (get_or d k 0)
  one_at d o =
      let g : first_line (drop k (lines_of t)) ≡ part i e t = ap first_line row_is in
      let m : area_of (region (lines_of t)) (lines_of t) k ≡ lines_at t w' = sym (area-here (lines_of t) k (lines_at t w) v (part i e t) _ row_is) ∙ sym area-is in
      rw (sym g, sym m) (o k)

-- ---- the notes

-- the first line, or the end
first_part : (t : List ℕ) (j e : ℕ) → e ≡ j + up_to 10 (drop j t) → first_line (lines_of (drop j t)) ≡ part j e t
first_part t j e q = go (ltb j (length t)) refl
  where
    go : (b : Bool) → ltb j (length t) ≡ b → first_line (lines_of (drop j t)) ≡ part j e t
    go true y = ap first_line (lines-at t j e (ltb-true j (length t) y) q)
    go false y =
        let h = ltb-false j (length t) y in
        let z = find-end 10 t j h in
        let w : e ≡ j = omega arith in
        ap first_line (lines_end t j h) ∙ sym (part_none t j) ∙ ap (λ (i : ℕ). part j i t) (sym w)

module _ (t ps d : List ℕ) (n : NotesOf (lines_of t) ps d) (i k x : ℕ) (rows : lines_of (drop i t) ≡ drop k (lines_of t)) (z : x ≡ get_or d k 0) where
  pub kind_at : (e : ℕ) (l : List ℕ) → e ≡ i + up_to 10 (drop i t) → l ≡ part i e t → KindIs l x
  kind_at e l q p = rw (z, p, sym (first_part t i e q), rows) (n k).kind

  pub kind-first : KindIs (first_line (lines_of (drop i t))) x
  kind-first = rw (z, rows) (n k).kind

  pub drop_at : DropBy (first_line (lines_of (drop i t))) (get_or ps k 0) (drop 1 (lines_of (drop i t))) (drop (k + 1) ps) x
  drop_at = rw (z, rows, drop-drop 1 k (lines_of t)) (n k).drops

  pub send_at : (e j : ℕ) (l : List ℕ) → i < length t → e ≡ i + up_to 10 (drop i t) → j ≡ min (e + 1) (length t) → l ≡ part i e t → SendBy l (lines_of (drop j t)) x
  send_at e j l h q w p = rw (z, p, sym (first_part t i e q), rows_on t i k e j rows h q w, rows) (n k).sends

-- what a note says of the region of a line, which is l, where r begins with that region
pub one_line : (t d : List ℕ) (i e k w : ℕ) (l r : List ℕ) (x : ℕ) → l ≡ part i e t → r ≡ part w (length t) t → x ≡ get_or d k 0 →
    OneBy (part i e t) (lines_at t w) (get_or d k 0) → OneBy l (region (lines_of r)) x
one_line t d i e k w l r x b c y o = rw (b, c, rest_of t w, y) o

-- the mark of a line whose note says at once that it stays as it is
pub first-told : (R : Reading) (t ps fs d : List ℕ) (i e k w x : ℕ) → RowAt t i e k → NotesOf (lines_of t) ps d → x ≡ get_or d k 0 → told x ≡ true →
    0 ≡ first_mark R (lines_of (drop i t)) (drop k ps) (drop k fs) (lines_at t w)
first-told R t ps fs d i e k w x a n z h =
    let j : ℕ = min (e + 1) (length t) in
    let r : List ℕ = part w (length t) t in
    let b : Bool = is_set (get_or fs k 0) in
    let next : Bool = first_drops R (lines_of (drop j t)) (drop (k + 1) ps) (is_set (get_or fs (k + 1) 0)) in
    let stays = settled-first R (lines_of (drop i t)) ps k b x (kind-first t ps d n i k x a.rows z) (told-settled x h) (drop_at t ps d n i k x a.rows z) in
    let sent = told-takes R (part i e t) x (kind_at t ps d n i k x a.rows z e (part i e t) a.end refl) h (region (lines_of r)) b next (lines_of (drop j t))
    (send_at t ps d n i k x a.rows z e j (part i e t) a.here a.end refl refl) in
    first-stays R t ps fs i e k w a (get_or fs k 0) refl j (part i e t) r next 0 (sym stays) refl refl refl refl (mark-stays sent)

-- what follows a line
pub drop-rest : (t ps : List ℕ) (i e j k n m : ℕ) → i < length t → e ≡ i + up_to 10 (drop i t) → j ≡ min (e + 1) (length t) → n ≡ k + 1 →
    DropBy (first_line (lines_of (drop i t))) (get_or ps k 0) (drop 1 (lines_of (drop i t))) (drop (k + 1) ps) m → DropBy (part i e t) (get_or ps k 0) (lines_of (part j (length t) t)) (part n (length ps) ps) m
drop-rest t ps i e j k n m h q z y w =
    rw (rest_of t j, rest_of ps n, z, y) (subst (λ (ls : List (List ℕ)). DropBy (first_line ls) (get_or ps k 0) (drop 1 ls) (drop (k + 1) ps) m) (lines-at t i e h q) w)

pub send-rest : (t l : List ℕ) (j e n m : ℕ) → j < length t → e ≡ j + up_to 10 (drop j t) → n ≡ min (e + 1) (length t) → SendBy l (lines_of (drop j t)) m → SendBy l (part j e t ∷ lines_of (part n (length t) t)) m
send-rest t l j e n m h q z w = rw (rest_of t n, z) (subst (λ (ls : List (List ℕ)). SendBy l ls m) (lines-at t j e h q) w)
