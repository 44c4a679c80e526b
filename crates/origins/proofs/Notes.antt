-- A pass that writes its lines one by one notes the moves of its acts: by where it wrote. Assumes nothing.
use Prim.Native.Nat.{ℕ, suc, ◌+◌, ◌-◌, ◌≤◌}
use mathlib.Core.Path.{◌≡◌, refl, sym, ap, subst, ◌∙◌}
use mathlib.Core.Bool.{Bool, true, false}
use mathlib.Core.List.{List, [], ◌∷◌}
use native.Mathlib.Omega.{arith}
use borrow.Author.Tests.{eq-eqb, ne_eqb}
use borrow.Rule.Slice.PartMut.{put_mid}
use lib.ListN.{length, take, drop, length-append, length-take, length-drop, length-replicate, replicate}
use Rattle.lines.specs.Acts.{Act, keep, become, into, gone, act}
use Rattle.lines.specs.Lf.{unlines, all}
use Rattle.lines.specs.Inner.Out.{Wrote}
use Rattle.lines.proofs.Tests.{no}
use Rattle.lines.proofs.ActLaws.{keeps}
use Rattle.lines.proofs.OutLaws.{wrote_as, wrote_part}
use Rattle.origins.specs.Inner.Codes.{move_of, moves_of, note_of}

-- a line stays, becomes another or is gone
abbrev pub plainly : Act → Bool
plainly keep = true
plainly (become x) = true
plainly (into n) = false
plainly gone = true

-- what is noted of a line that was written is its move
pub note-act : (a : Act) (l d d' : List ℕ) (o p : ℕ) → plainly a ≡ true → Wrote d o (unlines (act a l)) d' p → note_of o p ≡ move_of a
unfolding move_of act unlines
note-act keep l d d' o p h w = rw (ne_eqb o p (omega (arith, w.place, length-append l (10 ∷ []))))
note-act (become x) l d d' o p h w = rw (ne_eqb o p (omega (arith, w.place, length-append x (10 ∷ []))))
note-act (into n) l d d' o p h w = no h
note-act gone l d d' o p h w = rw (eq-eqb o p (omega (arith, w.place)))

pub moves-length : (acts : List Act) → length (moves_of acts) ≡ length acts
unfolding moves_of
moves-length [] = refl
moves-length (a ∷ more) = ap suc (moves-length more)

-- lines that all stay
pub moves-stay : (acts : List Act) → all keeps acts ≡ true → moves_of acts ≡ replicate (length acts) 0
unfolding moves_of move_of
moves-stay [] h = refl
moves-stay (keep ∷ more) h = ap (λ (r : List ℕ). 0 ∷ r) (moves-stay more h)
moves-stay (become x ∷ more) h = no h
moves-stay (into n ∷ more) h = no h
moves-stay (gone ∷ more) h = no h

-- the place after the moves of acts is their number
pub moves-end : (acts : List Act) {d d' : List ℕ} {r : ℕ} (n : ℕ) → length acts ≡ n → Wrote d 0 (moves_of acts) d' r → Wrote d 0 (moves_of acts) d' n
moves-end acts {d} {d'} {r} n e w =
    let q : r ≡ n = omega (arith, w.place, moves-length acts) in
    subst (λ (j : ℕ). Wrote d 0 (moves_of acts) d' j) q w

-- what was noted of lines that all stay is the moves of their acts
pub stay-moves : (acts : List Act) {d d' : List ℕ} {r : ℕ} (n : ℕ) → length acts ≡ n → all keeps acts ≡ true → Wrote d 0 (replicate n 0) d' r → Wrote d 0 (moves_of acts) d' n
stay-moves acts n e h w = moves-end acts n e (wrote_as (ap (λ (j : ℕ). replicate j 0) (sym e) ∙ sym (moves-stay acts h)) w)

-- what was noted of lines that all stay in the part of a table that is theirs
pub stay-part : (d ys : List ℕ) (k n : ℕ) → k + n ≤ length d → ys ≡ replicate (length (take (k + n - k) (drop k d))) 0 → Wrote d k (replicate n 0) (put_mid k (k + n - k) d ys) (k + n)
stay-part d ys k n h e =
    let m : length (take (k + n - k) (drop k d)) ≡ n = omega (arith, length-take (k + n - k) (drop k d), length-drop k d) in
    let q : k + length (replicate {A = ℕ} n 0) ≡ k + n = omega (arith, length-replicate {A = ℕ} n 0) in
    wrote_part d (replicate n 0) ys k (k + n) q h (e ∙ ap (λ (j : ℕ). replicate j 0) m)
