use Prim.Native.Nat.{ℕ}
use mathlib.Core.Path.{ap, ◌∙◌}
use lib.ListN.{get_or}
use Rattle.place.proofs.Flats.{flat-none, flat-not, flat-by}
use Rattle.place.proofs.is_flat.Goals as goal

pub returns-then-n-eq0 : goal.returns-then-n-eq0
returns-then-n-eq0 c = flat-none c.args.line.now c.if-n-eq0.true

pub returns-then-not-c : goal.returns-then-not-c
returns-then-not-c c = flat-not c.args.line.now c.if-not-c.true

pub returns : goal.returns
returns c = flat-by c.args.line.now c.byte_at.result c.if-not-c.false (c.byte_at.ensures ∙ ap (λ (i : ℕ). get_or c.args.line.now i 0) c.trim_from.ensures)
