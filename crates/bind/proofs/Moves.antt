-- The moves that `bind_declarators` hands out by its marks. Assumes nothing.
use Prim.Native.Nat.{ℕ, zero, suc, ◌+◌, ◌<◌}
use mathlib.Core.Path.{◌≡◌, refl, sym, ap, subst, ◌∙◌}
use mathlib.Core.Bool.{Bool, true, false, cond}
use mathlib.Core.List.{List, [], ◌∷◌}
use native.Mathlib.Omega.{arith}
use borrow.Author.Tests.{eq-eqb, ne_eqb}
use lib.Dec.{eqb}
use lib.ListN.{length, take, drop, get_or, set}
use Rattle.lines.specs.Acts.{Act, keep, become, into, gone}
use Rattle.lines.proofs.Tests.{no}
use Rattle.lines.proofs.OutLaws.{PutInv, put_byte}
use Rattle.text.specs.Trim.{from_of}
use Rattle.origins.specs.Inner.Codes.{far_move, move_of, moves_of}
use Rattle.origins.proofs.Notes.{plainly}
use Rattle.decls.specs.Decls.{decl_act}
use Rattle.decls.proofs.Moves.{decl-plain}
use Rattle.reading.specs.Reading.{Reading}
use Rattle.bind.specs.Bind.{BlockLine, block_lines, until_head, any_bound, unbound, mark_all, marked, pieces_of, promoted, bind_act, above_in, bind_go, bind_declarators_acts}
use Rattle.bind.specs.Inner.Steps.{site_text, site_marks, site_notes, end_note, notes_go, bind_notes, note_moves}

-- ---- a line marks itself where nothing was written of it

module _ (f : ℕ → Bool) (g : ℕ → ℕ) (l m m' : List ℕ) (k o p : ℕ) (h : p ≡ o + length (site_text f l (get_or m k 0))) (x : m' ≡ site_marks f g l m) where
  pub site-gone : p ≡ o → set m' k 2 ≡ site_notes f g l k m
  unfolding site_notes
  site-gone e = rw (eq-eqb (length (site_text f l (get_or m k 0))) 0 (omega arith)) (ap (λ (d : List ℕ). set d k 2) x)

  pub site_left : (p ≡ o → ⊥) → m' ≡ site_notes f g l k m
  unfolding site_notes
  site_left n = rw (ne_eqb (length (site_text f l (get_or m k 0))) 0 (λ e. n (omega (arith, e)))) x

-- ---- the moves of the acts

pub act-plain : (d : BlockLine) (above : List (List ℕ)) (below : List BlockLine) (m : Bool) → plainly (bind_act d above below m) ≡ true
unfolding bind_act
act-plain d above below m = go (any_bound (pieces_of d.line) above d below) m
  where
    go : (a b : Bool) → plainly (cond a (decl_act (take (from_of d.line) d.line) (unbound (pieces_of d.line) above d below)) (cond b (become (promoted d.line)) keep)) ≡ true
    go true b = decl-plain (take (from_of d.line) d.line) (unbound (pieces_of d.line) above d below)
    go false true = refl
    go false false = refl

note-move : (a : Act) (m : Bool) → plainly a ≡ true → move_of a ≡ cond (eqb (end_note a m) 2) far_move 0
unfolding move_of
note-move keep true h = refl
note-move keep false h = refl
note-move (become t) true h = refl
note-move (become t) false h = refl
note-move (into n) m h = no h
note-move gone m h = refl

go-moves : (sp : List BlockLine) (us : List (List ℕ)) (ms : List Bool) → moves_of (bind_go sp us ms) ≡ note_moves (notes_go sp us ms)
unfolding moves_of bind_go notes_go note_moves
go-moves [] us ms = refl
go-moves (d ∷ sp) us ms =
    let next : List Bool = mark_all (pieces_of d.line) (above_in d us) d (until_head sp) (drop 1 ms) in
    let a : Act = bind_act d (above_in d us) (until_head sp) (marked ms) in
    ap (λ (n : ℕ). n ∷ moves_of (bind_go sp (d.line ∷ above_in d us) next)) (note-move a (marked ms) (act-plain d (above_in d us) (until_head sp) (marked ms)))
    ∙ ap (λ (r : List ℕ). cond (eqb (end_note a (marked ms)) 2) far_move 0 ∷ r) (go-moves sp (d.line ∷ above_in d us) next)

-- the moves of the acts are those by the marks
pub bind-moves : (R : Reading) (ls : List (List ℕ)) → moves_of (bind_declarators_acts R ls) ≡ note_moves (bind_notes R ls)
unfolding bind_declarators_acts bind_notes
bind-moves R ls = go-moves (block_lines R ls) [] []

-- ---- the loop of `moves_of`

pub at-gone : (m : ℕ) → m ≡ 2 → far_move ≡ cond (eqb m 2) far_move 0
at-gone m h = rw (eq-eqb m 2 h)

pub at-stands : (m : ℕ) → (m ≡ 2 → ⊥) → 0 ≡ cond (eqb m 2) far_move 0
at-stands m h = rw (ne_eqb m 2 h)

pub moves-many : (ms : List ℕ) → length (note_moves ms) ≡ length ms
unfolding note_moves
moves-many [] = refl
moves-many (m ∷ ms) = ap suc (moves-many ms)

moves-entry : (ms : List ℕ) (i : ℕ) → get_or (note_moves ms) i 0 ≡ cond (eqb (get_or ms i 0) 2) far_move 0
unfolding note_moves
moves-entry [] i = refl
moves-entry (m ∷ ms) zero = refl
moves-entry (m ∷ ms) (suc i) = moves-entry ms i

pub moves-on : (ms : List ℕ) {d₀ d : List ℕ} {i : ℕ} → PutInv (note_moves ms) d₀ d 0 i i → i < length ms → (x : ℕ) → x ≡ cond (eqb (get_or ms i 0) 2) far_move 0 → PutInv (note_moves ms) d₀ (set d i x) 0 (i + 1) (i + 1)
moves-on ms {d₀} {d} {i} h k x e = subst (λ (n : ℕ). PutInv (note_moves ms) d₀ (set d i n) 0 (i + 1) (i + 1)) (moves-entry ms i ∙ sym e) (put_byte h (omega (arith, moves-many ms)))
