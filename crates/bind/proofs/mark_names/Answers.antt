use Prim.Native.Nat.{ℕ}
use native.Mathlib.Omega.{arith}
use mathlib.Core.Bool.{false, ◌||◌}
use mathlib.Core.List.{List}
use mathlib.Core.Path.{refl, sym, ap, ◌∙◌}
use lib.ListN.{length}
use Rattle.lines.specs.Inner.Pieces.{pieces_left}
use Rattle.names.specs.Names.{reg_of}
use Rattle.bind.specs.Inner.Steps.{bound_at, mark_row, passes, any_pass, noted_all}
use Rattle.bind.proofs.SiteLaws.{pass-on, pass-end, noted-length, noted-on, noted-end}
use Rattle.bind.proofs.mark_names.Goals as goal

pub loop-piece-init : goal.loop-piece-init
loop-piece-init c =
    let a = c.args in
    let bound = bound_at a.text.now a.s a.blocks.now a.starts.now in
    let e = ap pieces_left c.into_iter-piece-iterator.ensures.into_iter_gives ∙ c.pieces-piece-items.ensures in
    (refl, (ap (λ (ps : List (List ℕ)). noted_all bound (mark_row a.text.now a.s) ps a.marks.now) e, ap (λ (ps : List (List ℕ)). false || any_pass bound ps) e))

pub mark_name-b-requires : goal.mark_name-b-requires
mark_name-b-requires c = (c.requires.0, omega (arith, c.requires.1, c.loop-piece.invariant.0))

pub loop-piece-preserved : goal.loop-piece-preserved
loop-piece-preserved c =
    let a = c.args in
    let l = c.loop-piece in
    let bound = bound_at a.text.now a.s a.blocks.now a.starts.now in
    let row = mark_row a.text.now a.s in
    let e = c.in-Some.ensures.steps in
    let t = c.trim-name in
    let b = c.mark_name-b in (
      ap length b.ensures.memory ∙ noted-length bound row (reg_of t.result.now) l.marks ∙ l.invariant.0,
      (
        sym (noted-on bound row e t.result.now t.ensures.0 l.marks _ b.ensures.memory) ∙ l.invariant.1.0,
        sym (pass-on bound e b.result (b.ensures.answer ∙ ap (λ (n : List ℕ). passes bound (reg_of n)) t.ensures.0) l.any) ∙ l.invariant.1.1,
      ),
    )

pub shape_of-marks : goal.shape_of-marks
shape_of-marks c = c.loop-piece.invariant.0

pub returns : goal.returns
returns c =
    let a = c.args in
    let l = c.loop-piece in
    let bound = bound_at a.text.now a.s a.blocks.now a.starts.now in
    let e = c.in-None.ensures.steps.0 in
    record { answer = sym (pass-end bound e l.any) ∙ l.invariant.1.1; memory = sym (noted-end bound (mark_row a.text.now a.s) e l.marks) ∙ l.invariant.1.0 }
