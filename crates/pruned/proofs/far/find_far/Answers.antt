use Prim.Native.Nat.{ℕ, ◌+◌}
use mathlib.Core.Path.{ap, ◌∙◌}
use mathlib.Core.List.{List}
use lib.ListN.{drop}
use Rattle.lines.specs.Lf.{up_to}
use Rattle.pruned.proofs.FarCode.{near-found, near-not}
use Rattle.pruned.proofs.far.find_far.Goals as goal

pub returns-then-s-lt-NEAR : goal.returns-then-s-lt-NEAR
returns-then-s-lt-NEAR c = c.find_byte.ensures

pub returns-then-s-i : goal.returns-then-s-i
returns-then-s-i c = c.find_byte-then-s-i.ensures

pub returns-then-e-i : goal.returns-then-e-i
returns-then-e-i c = let s = c.args in near-found s.s.now s.b s.i 64 c.find_byte-e.result (c.find_byte-e.ensures ∙ ap (λ (x : List ℕ). s.i + up_to s.b (drop s.i x)) c.cut.ensures) c.if-e-i.true

pub returns : goal.returns
returns c = let s = c.args in near-not s.s.now s.b s.i 64 c.find_byte-e.result (c.find_byte-e.ensures ∙ ap (λ (x : List ℕ). s.i + up_to s.b (drop s.i x)) c.cut.ensures) c.if-e-i.false c.find_many.result c.find_many.ensures
