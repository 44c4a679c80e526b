use native.Mathlib.Omega.{arith}
use Rattle.reading.specs.Reading.{reading_of}
use Rattle.steps.proofs.Tame.{tame-temps, room_fits, room-length}
use Rattle.steps.proofs.StepLaws.{temps-left}
use Rattle.steps.proofs.temps_step.Goals as goal

pub prune_dead_temps-requires : goal.prune_dead_temps-requires
prune_dead_temps-requires c = let p = c.requires in (omega (arith, room-length p.0, p.1.0), (omega (arith, room_fits (tame-temps (reading_of c.args.m.mode.0)) p.0, p.1.1.0), omega (arith, p.0.lines, p.1.1.1)))

pub returns : goal.returns
returns c =
    let p = c.prune_dead_temps.ensures in
    let z = p.tables in
    record { answer = p.answer; memory = temps-left _ _ _ p.memory; tables = (z.1.0, (z.1.1, z.0)); moves = p.moves }
