-- Bounds of answers that are tested before they are written. Assumes nothing.
use Prim.Native.Nat.{ℕ, ◌+◌, ◌≤◌}
use mathlib.Core.Path.{◌≡◌, refl, sym, ap}
use mathlib.Core.Bool.{Bool, true, false, ◌||◌}
use mathlib.Core.List.{List}
use native.Mathlib.Omega.{arith}
use lib.ListN.{length, replicate, length-replicate, length-take, length-drop}
use Rattle.lines.specs.Lf.{part, count_of, lines_of, unlines}
use Rattle.lines.specs.Steps.{split_lines}
use Rattle.lines.proofs.Counts.{split-lines}
use Rattle.place.specs.Inner.Parents.{path_parents}
use Rattle.place.proofs.Rooms.{path-parents-text}
use Rattle.weight.specs.Inner.Weight.{weight}
use Rattle.weight.proofs.Weigh.{length-weight, weight-twice}
use Rattle.weight.proofs.Moves.{lines-weight}
use Rattle.words.specs.Hits.{glue_left, glue_right, glued, replaced_at}
use Rattle.words.proofs.Glue.{glued-bare, glued-two, replaced-length}

glued-room : (before rep after : List ℕ) → length (glued before rep after) ≤ length rep + 2
glued-room before rep after = go (glue_left before rep || glue_right rep after) refl
  where
    go : (b : Bool) → (glue_left before rep || glue_right rep after) ≡ b → length (glued before rep after) ≤ length rep + 2
    go true e = omega (arith, glued-two before rep after e)
    go false e = omega (arith, ap length (glued-bare before rep after e))

part_room : (a e : ℕ) (l : List ℕ) → length (part a e l) ≤ length l
part_room a e l = simp (length-take, length-drop) (omega arith)

-- a line with a replacement, wherever the hit is said to be
pub replaced-room : (from to : ℕ) (l rep : List ℕ) → length (replaced_at from to l rep) ≤ length l + length l + length rep + 2
replaced-room from to l rep =
    let before = part 0 from l in
    let after = part to (length l) l in
    omega (
      arith,
      replaced-length from to l rep before after refl refl,
      glued-room before rep after,
      part_room 0 from l,
      part_room to (length l) l,
    )

-- a text has as many lines with its CRs as without
pub lines-count : (t : List ℕ) → length (lines_of t) ≡ length (split_lines t)
lines-count t = sym (split-lines t)

-- a pass that does not raise the weight: twice the text and one LF is room
pub pass-room : (pass : List (List ℕ) → List (List ℕ)) → ((ls : List (List ℕ)) → weight 0 (unlines (pass ls)) ≤ weight 0 (unlines ls)) →
    (t : List ℕ) → length (unlines (pass (lines_of t))) ≤ length t + length t + 1
pass-room pass light t =
    let a = length-weight 0 (unlines (pass (lines_of t))) in
    let b = light (lines_of t) in
    let c = lines-weight 0 t in
    let d = weight-twice t in
    omega arith

-- room in tables of m lines and of m blocks, for the lines of a text and for the blocks that they open
pub rows-room : (m : ℕ) (t : List ℕ) → length (split_lines t) ≤ m → length (lines_of t) ≤ length (replicate {A = ℕ} m 0)
rows-room m t h = omega (arith, length-replicate {A = ℕ} m 0, lines-count t)

pub blocks-room : (m : ℕ) (t : List ℕ) → count_of 123 t ≤ m → length (path_parents (lines_of t)) ≤ length (replicate {A = ℕ} m 0)
blocks-room m t h = omega (arith, length-replicate {A = ℕ} m 0, path-parents-text t)
