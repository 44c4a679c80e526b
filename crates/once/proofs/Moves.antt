-- The moves that `optimize_once` hands out: those of its acts by their marks, and those of the declarations after them. Assumes nothing.
use Prim.Native.Nat.{ℕ, zero, suc, ◌+◌, ◌≤◌, ◌<◌}
use mathlib.Core.Path.{◌≡◌, refl, sym, ap, subst, ◌∙◌}
use mathlib.Core.Bool.{Bool, true, false, cond, ◌&&◌}
use mathlib.Core.List.{List, [], ◌∷◌}
use native.Mathlib.Omega.{arith}
use native.Mathlib.Numerals.{add-one}
use borrow.Author.Tests.{eq-eqb, ne_eqb, le-leb}
use lib.Dec.{eqb, leb}
use lib.ListN.{length, get_or, set}
use Rattle.lines.specs.Lf.{all, lines_of, unlines}
use Rattle.lines.specs.Acts.{Act, keep, become, into, gone, apply}
use Rattle.lines.specs.Inner.Out.{Wrote}
use Rattle.lines.proofs.Tests.{and_both}
use Rattle.lines.proofs.ActLaws.{apply-length}
use Rattle.lines.proofs.OutLaws.{PutInv, put_byte}
use Rattle.place.specs.Blocks.{top}
use Rattle.place.specs.Inner.Fill.{flags_of}
use Rattle.place.specs.Paths.{block_paths, tops}
use Rattle.place.specs.Loops.{inside_loop}
use Rattle.parse.specs.Parse.{parse_of}
use Rattle.origins.specs.Inner.Codes.{far_move, move_of, moves_of}
use Rattle.decls.specs.Decls.{prune_decls_acts}
use Rattle.reading.specs.Reading.{Reading}
use Rattle.origins.proofs.CodeLaws.{sound}
use Rattle.once.specs.Once.{Spot, taken_by, once_acts}
use Rattle.once.specs.Inner.Tables.{sends, act_by, acts_by, once_marks}
use Rattle.once.specs.Inner.Moves.{mark_move, move_marks}
use Rattle.once.proofs.Fills.{marks-of, acts-of, marks-length}
use Rattle.once.proofs.Passes.{mid-reads}
use Rattle.once.proofs.Reasons.{Said, ended, stayed, went, moved, once-said}

-- ---- the moves of the acts

act-move : (m n : ℕ) (given : Bool) (above l : List ℕ) → move_of (act_by m n given above l) ≡ mark_move m n
unfolding move_of
act-move m n given above l = go (eqb m 1) (eqb m 2) (eqb n 2) given
  where
    go : (a b c g : Bool) → move_of (cond a gone (cond b (cond c keep (into 1)) (cond g (become (taken_by above (parse_of above) l)) keep))) ≡ cond a far_move (cond b (cond c 0 1) 0)
    go true b c g = refl
    go false true true g = refl
    go false true false g = refl
    go false false c true = refl
    go false false c false = refl

marks-move : (ls : List (List ℕ)) (ms : List ℕ) (given : Bool) (above : List ℕ) → length ms ≡ length ls → moves_of (acts_by ls ms given above) ≡ move_marks ms
unfolding moves_of acts_by move_marks top
marks-move [] [] given above h = refl
marks-move [] (m ∷ ms) given above h = absurd (omega arith)
marks-move (l ∷ ls) [] given above h = absurd (omega arith)
marks-move (l ∷ ls) (m ∷ ms) given above h =
    ap (λ (n : ℕ). n ∷ moves_of (acts_by ls ms (sends m (top ms)) l)) (act-move m (top ms) given above l) ∙ ap (λ (r : List ℕ). mark_move m (top ms) ∷ r) (marks-move ls ms (sends m (top ms)) l (omega arith))

once-marks : (R : Reading) (ls : List (List ℕ)) → length (once_marks R ls) ≡ length ls
once-marks R ls = ap length (sym (marks-of R ls)) ∙ marks-length R ls (tops (block_paths ls)) (flags_of (inside_loop ls))

-- the moves of the acts are those by the marks
pub once-moves : (R : Reading) (ls : List (List ℕ)) → moves_of (once_acts R ls) ≡ move_marks (once_marks R ls)
once-moves R ls = ap moves_of (sym (acts-of R ls)) ∙ marks-move ls (once_marks R ls) false [] (once-marks R ls)

-- ---- a line goes only into one below it

-- where a line goes n lines down, above lines with the acts `more`, there are so many
unfoldable pub reaches : Act → List Act → Bool
reaches keep more = true
reaches (become t) more = true
reaches (into n) more = leb n (length more)
reaches gone more = true

-- so of each line
unfoldable pub reaches_all : List Act → Bool
unfolding reaches
reaches_all [] = true
reaches_all (a ∷ more) = reaches a more && reaches_all more

said-sound : {R : Reading} {ss : List Spot} {acts : List Act} → Said R ss acts → (all sound acts ≡ true) × (reaches_all acts ≡ true)
unfolding reaches_all reaches
said-sound ended = (refl, refl)
said-sound (stayed h) = said-sound h
said-sound (went r h) = said-sound h
said-sound (moved {more = more} t h) = ((said-sound h).0, and_both (le-leb 1 (suc (length more)) (omega arith)) (said-sound h).1)

-- none goes into itself, and none past the last
pub once-sound : (R : Reading) (ls : List (List ℕ)) → (all sound (once_acts R ls) ≡ true) × (reaches_all (once_acts R ls) ≡ true)
once-sound R ls = said-sound (once-said R ls)

-- ---- one move

module _ (m n : ℕ) where
  pub at-gone : m ≡ 1 → far_move ≡ mark_move m n
  at-gone h = rw (eq-eqb m 1 h)

  module _ (h : m ≡ 1 → ⊥) where
    pub at-stands : (m ≡ 2 → ⊥) → 0 ≡ mark_move m n
    at-stands k = rw (ne_eqb m 1 h, ne_eqb m 2 k)

    pub at-chain : m ≡ 2 → n ≡ 2 → 0 ≡ mark_move m n
    at-chain k l = rw (ne_eqb m 1 h, eq-eqb m 2 k, eq-eqb n 2 l)

    pub at_next : m ≡ 2 → (n ≡ 2 → ⊥) → 1 ≡ mark_move m n
    at_next k l = rw (ne_eqb m 1 h, eq-eqb m 2 k, ne_eqb n 2 l)

-- ---- the loop of `moves_of`

pub moves-many : (ms : List ℕ) → length (move_marks ms) ≡ length ms
unfolding move_marks
moves-many [] = refl
moves-many (m ∷ ms) = ap suc (moves-many ms)

top-first : (ms : List ℕ) → top ms ≡ get_or ms 0 0
unfolding top
top-first [] = refl
top-first (m ∷ ms) = refl

moves-entry : (ms : List ℕ) (i : ℕ) → get_or (move_marks ms) i 0 ≡ mark_move (get_or ms i 0) (get_or ms (suc i) 0)
unfolding move_marks
moves-entry [] i = refl
moves-entry (m ∷ ms) zero = ap (mark_move m) (top-first ms)
moves-entry (m ∷ ms) (suc i) = moves-entry ms i

pub moves-on : (ms : List ℕ) {d₀ d : List ℕ} {i : ℕ} → PutInv (move_marks ms) d₀ d 0 i i → i < length ms → (x n : ℕ) → x ≡ mark_move (get_or ms i 0) n → n ≡ get_or ms (i + 1) 0 → PutInv (move_marks ms) d₀ (set d i x) 0 (i + 1) (i + 1)
moves-on ms {d₀} {d} {i} h k x n e f =
    let g : get_or (move_marks ms) i 0 ≡ x = moves-entry ms i ∙ ap (λ (j : ℕ). mark_move (get_or ms i 0) (get_or ms j 0)) (sym (add-one i)) ∙ ap (mark_move (get_or ms i 0)) (sym f) ∙ sym e in
    subst (λ (y : ℕ). PutInv (move_marks ms) d₀ (set d i y) 0 (i + 1) (i + 1)) g (put_byte h (omega (arith, moves-many ms)))

-- ---- the declarations after them

-- x is what the acts made
pub mid-moves : (R : Reading) (t x : List ℕ) {d d' : List ℕ} → x ≡ unlines (apply (once_acts R (lines_of t)) (lines_of t)) → Wrote d 0 (moves_of (prune_decls_acts (lines_of x))) d' (length (lines_of x)) →
    Wrote d 0 (moves_of (prune_decls_acts (apply (once_acts R (lines_of t)) (lines_of t)))) d' (length (apply (once_acts R (lines_of t)) (lines_of t)))
mid-moves R t x {d} {d'} e w =
    let q : lines_of x ≡ apply (once_acts R (lines_of t)) (lines_of t) = ap lines_of e ∙ mid-reads R t in
    subst (λ (ls : List (List ℕ)). Wrote d 0 (moves_of (prune_decls_acts ls)) d' (length ls)) q w

pub mid-room : (R : Reading) (t x : List ℕ) → x ≡ unlines (apply (once_acts R (lines_of t)) (lines_of t)) → length (lines_of x) ≤ length (lines_of t)
mid-room R t x e = omega (arith, ap length (ap lines_of e ∙ mid-reads R t), apply-length (once_acts R (lines_of t)) (lines_of t))
