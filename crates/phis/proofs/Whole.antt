-- What a round leaves as it is. Assumes nothing.
use Prim.Native.Nat.{ℕ}
use mathlib.Core.Path.{◌≡◌, refl, sym, ap}
use mathlib.Core.Bool.{Bool, true, false, ◌&&◌}
use mathlib.Core.List.{List, [], ◌∷◌, ◌++◌}
use Rattle.lines.specs.Lf.{part, lines_of, unlines, holds}
use Rattle.text.specs.Trim.{from_of, trim_start}
use Rattle.names.specs.Names.{phi_word}
use Rattle.std.specs.declared.option.Option.{Option}
use Rattle.names.specs.declared.Phi.{Phi}
use Rattle.reading.specs.Reading.{Reading}
use Rattle.phis.specs.Phis.{phi_store, phi_dead, any_dead, round}
use Rattle.phis.specs.Inner.Rounds.{change_text}
use Rattle.phis.proofs.Held.{held-store, held-decl, held-dead}
use Rattle.phis.proofs.Writes.{change-keep}
use Rattle.phis.proofs.Keeps.{none-dead}

-- a line without the letters `phi` stays
pub held-change : (R : Reading) (ls : List (List ℕ)) (l : List ℕ) → holds phi_word l ≡ false → change_text R ls l ≡ l ++ 10 ∷ []
held-change R ls l h =
    change-keep R ls l (trim_start l) (part 0 (from_of l) l) (from_of l) refl refl refl (phi_store (trim_start l)) refl (ap (λ (n : Option Phi). phi_dead n ls) (held-store l h)) (held-decl l h)

-- a round writes a text without a dead phi as it is
pub none-round : (R : Reading) (t : List ℕ) → any_dead (lines_of t) (lines_of t) ≡ false → unlines (lines_of t) ≡ unlines (round R (lines_of t))
none-round R t h = sym (ap unlines (none-dead R (lines_of t) h))

-- nothing is dead where that is known, or where the text is without the letters `phi`
pub calm-dead : (t : List ℕ) (b : Bool) → (b ≡ false → any_dead (lines_of t) (lines_of t) ≡ false) → b && holds phi_word t ≡ false → any_dead (lines_of t) (lines_of t) ≡ false
calm-dead t true f h = held-dead t h
calm-dead t false f h = f refl
