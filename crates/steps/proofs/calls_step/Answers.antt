use mathlib.Core.Path.{refl, ap, ◌∙◌}
use native.Mathlib.Omega.{arith}
use Prim.Native.Nat.{ℕ}
use lib.ListN.{replicate}
use Rattle.lines.specs.Lf.{lines_of}
use Rattle.slots.proofs.SlotLaws.{wiped-zeros}
use Rattle.steps.proofs.Tame.{calls-room}
use Rattle.steps.proofs.StepLaws.{calls-left}
use Rattle.steps.proofs.Traces.{calls-trail}
use Rattle.steps.proofs.calls_step.Goals as goal

pub rebuild_calls-n-requires : goal.rebuild_calls-n-requires
rebuild_calls-n-requires c = let p = c.requires.1 in calls-room c.args.m.mode.0 p.0 p.1.0 p.1.1.0 p.1.1.1

pub trace-requires : goal.trace-requires
trace-requires c = omega (arith, c.requires.0, c.requires.1.0.lines, c.requires.1.1.1.1.1.0, c.rebuild_calls-n.auto.owner)

pub shape_of-starts : goal.shape_of-starts
shape_of-starts c = c.wipe.auto.s ∙ c.rebuild_calls-n.auto.starts

pub shape_of-owner : goal.shape_of-owner
shape_of-owner c = c.trace.auto.moves ∙ c.rebuild_calls-n.auto.owner

pub shape_of-ends : goal.shape_of-ends
shape_of-ends c = c.wipe-2.auto.table ∙ c.rebuild_calls-n.auto.ends

pub shape_of-blocks : goal.shape_of-blocks
shape_of-blocks c = c.wipe-3.auto.table ∙ c.rebuild_calls-n.auto.blocks

pub returns : goal.returns
returns c =
    let p = c.rebuild_calls-n.ensures in
    let s = p.scratch in
    let z = p.notes in
    let e = c.requires.0 in
    record { answer = p.answer; memory = calls-left _ _ s.0 s.1.0 s.1.1 p.tables.1.1; tables = (wiped-zeros refl c.rebuild_calls-n.auto.starts c.wipe.ensures, (z.0, (z.1.0, (z.1.1, (c.trace.ensures.memory ∙ ap (λ (n : ℕ). replicate n 0) c.rebuild_calls-n.auto.owner, (c.wipe-2.ensures ∙ ap (λ (n : ℕ). replicate n 0) c.rebuild_calls-n.auto.ends, c.wipe-3.ensures ∙ ap (λ (n : ℕ). replicate n 0) c.rebuild_calls-n.auto.blocks)))))); origins = calls-trail c.args.m.mode.0 (lines_of c.args.src.now) c.args.table.now e p.owners c.trace.ensures.origins }
