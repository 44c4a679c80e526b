-- The lines between two passes over a text, and the room that they have. Assumes nothing.
use Prim.Native.Nat.{ℕ, zero, suc, ◌+◌, ◌≤◌}
use mathlib.Core.Path.{◌≡◌, ap}
use mathlib.Core.Bool.{Bool, true}
use mathlib.Core.List.{List}
use native.Mathlib.Omega.{arith}
use lib.ListN.{length}
use Rattle.lines.specs.Lf.{unlines}
use Rattle.lines.specs.Inner.Lf.{no_lf}
use Rattle.lines.specs.Steps.{split_lines}
use Rattle.lines.proofs.LfLaws.{lines-unlines, count-le}
use Rattle.lines.proofs.StepLaws.{split-no_lf}
use Rattle.weight.specs.Inner.Weight.{weight}
use Rattle.weight.proofs.Weigh.{weight-twice}
use Rattle.weight.proofs.Moves.{split-weight}
use Rattle.weight.proofs.Braces.{braces-le}
use Rattle.reading.specs.Reading.{Reading}
use Rattle.reading.proofs.Lined.{Lined}
use Rattle.limits.specs.declared.Limits.{Limits}
use Rattle.limits.specs.Inner.Sane.{Within}
use Rattle.steps.specs.Inner.Bounds.{Bounded}
use Rattle.steps.proofs.Tame.{Tame, tame-same, tame-then, tame-step}
use Rattle.passes.specs.Inner.Passes.{steps_of}

-- steps one after the other
pub tame-steps : {R : Reading} {shut : List (List ℕ) → Bool} → Lined R shut → (k n : ℕ) → Tame (steps_of R k n)
unfolding steps_of
tame-steps c k zero = tame-same
tame-steps c k (suc n) = tame-then (tame-step c k) (tame-steps c (suc k) n)

-- ---- lines between two passes over a text t

pub record Between (L : Limits) (t : List ℕ) (ls : List (List ℕ)) : Type 0 where
  pub clean : no_lf ls ≡ true
  pub light : (H : ℕ) → weight H (unlines ls) ≤ weight H t + 1
  pub few : length ls ≤ L.lines

pub between_start : {L : Limits} (t : List ℕ) → Within L t → Between L t (split_lines t)
between_start t h = record { clean = split-no_lf t; light = λ H. split-weight H t; few = h.lines }

pub between-on : {L : Limits} {t : List ℕ} {ls : List (List ℕ)} {f : List (List ℕ) → List (List ℕ)} → Tame f → Between L t ls → Between L t (f ls)
between-on {ls = ls} p w = record {
  clean = p.keeps ls w.clean;
  light = λ H. omega (arith, p.weighs H ls, w.light H);
  few = omega (arith, p.counts ls, w.few);
}

-- they have room: at most twice the text and one LF, no more lines, and no more `{` than the text
pub between-room : {L : Limits} {t : List ℕ} {ls : List (List ℕ)} → Within L t → Between L t ls → Bounded L (unlines ls)
between-room {t = t} {ls = ls} h w =
    let e = lines-unlines ls w.clean in
    record {
      sane = h.sane;
      heavy = omega (arith, ap (λ (ms : List (List ℕ)). weight 0 (unlines ms)) e, w.light 0, weight-twice t, h.bytes);
      lines = omega (arith, ap length e, w.few);
      braces = omega (arith, braces-le (unlines ls) t 1 w.light, count-le 123 t, h.bytes);
    }
