use Prim.Native.Nat.{ℕ}
use mathlib.Core.Path.{ap, ◌∙◌}
use lib.ListN.{replicate}
use Rattle.lines.specs.Lf.{lines_of}
use Rattle.reading.specs.Reading.{reading_of}
use Rattle.once.proofs.Passes.{filled-le}
use Rattle.engines.proofs.EngineLaws.{sweep-filled}
use Rattle.engines.proofs.sweep_drops.Goals as goal

pub decide-n-requires : goal.decide-n-requires
decide-n-requires c = c.requires

pub keep_goes-requires : goal.keep_goes-requires
keep_goes-requires c = filled-le c.decide-n.ensures.answer

pub shape_of-scratch : goal.shape_of-scratch
shape_of-scratch c = c.decide-n.auto.scratch

pub shape_of-loops : goal.shape_of-loops
shape_of-loops c = c.decide-n.auto.loops

pub shape_of-paths : goal.shape_of-paths
shape_of-paths c = c.decide-n.auto.paths

pub shape_of-up : goal.shape_of-up
shape_of-up c = c.decide-n.auto.up

pub shape_of-near : goal.shape_of-near
shape_of-near c = c.decide-n.auto.near

pub shape_of-far : goal.shape_of-far
shape_of-far c = c.decide-n.auto.far

pub shape_of-stores : goal.shape_of-stores
shape_of-stores c = c.decide-n.auto.stores

pub shape_of-notes : goal.shape_of-notes
shape_of-notes c = c.decide-n.auto.notes

pub shape_of-ends : goal.shape_of-ends
shape_of-ends c = c.wipe.auto.table ∙ c.decide-n.auto.ends

pub shape_of-flags : goal.shape_of-flags
shape_of-flags c = c.keep_goes.auto.marks ∙ c.decide-n.auto.marks

pub returns : goal.returns
returns c =
    let a = c.args in
    let d = c.decide-n in
    let e = d.ensures in
    let z = e.tables in
    record { answer = sweep-filled (reading_of a.mode.0) (lines_of a.text.now) e.answer c.keep_goes.ensures; memory = e.memory; tables = (z.0, (z.1.0, (z.1.1.0, (z.1.1.1, c.wipe.ensures ∙ ap (λ (n : ℕ). replicate n 0) d.auto.ends)))) }
