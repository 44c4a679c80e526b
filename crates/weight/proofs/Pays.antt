-- Acts that pay for what they write, with credit that goes down the lines. Assumes nothing.
use Prim.Native.Nat.{ℕ, ◌+◌, ◌≤◌}
use mathlib.Core.List.{List, [], ◌∷◌}
use native.Mathlib.Omega.{arith}
use Rattle.lines.specs.Lf.{unlines}
use Rattle.lines.specs.Acts.{Act, act, apply}
use Rattle.weight.specs.Inner.Weight.{weight}
use Rattle.weight.proofs.Weigh.{weight-line, weight-lines}

-- c is the credit that the lines above left, d what a line leaves
pub data Pays (H : ℕ) : ℕ → List Act → List (List ℕ) → Type 0 where
  done : {c : ℕ} → Pays H c [] []
  step : {c : ℕ} {a : Act} {more : List Act} {l : List ℕ} {ls : List (List ℕ)} (d : ℕ) →
      weight H (unlines (act a l)) + d ≤ weight H l + 1 + c → Pays H d more ls → Pays H c (a ∷ more) (l ∷ ls)

pub pays : {H c : ℕ} {acts : List Act} {ls : List (List ℕ)} → Pays H c acts ls → weight H (unlines (apply acts ls)) ≤ c + weight H (unlines ls)
unfolding apply unlines weight
pays done = omega arith
pays {H} (step {c} {a} {more} {l} {ls} d h p) =
    let r = pays p in
    let s = weight-lines H (act a l) (apply more ls) in
    let t = weight-line H l ls in
    omega arith

-- the credit may be more than is told
pub pays-more : {H c e : ℕ} {acts : List Act} {ls : List (List ℕ)} → c ≤ e → Pays H c acts ls → Pays H e acts ls
pays-more h done = done
pays-more {H} {c} {e} h (step {a = a} {l = l} d p q) = step {c = e} {a = a} {l = l} d (omega arith) q
