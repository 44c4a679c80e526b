use Rattle.reading.specs.Reading.{reading_of}
use Rattle.steps.proofs.Tame.{phis-room}
use Rattle.steps.proofs.StepLaws.{phis-left}
use Rattle.steps.proofs.phis_step.Goals as goal

pub prune_dead_phis-requires : goal.prune_dead_phis-requires
prune_dead_phis-requires c = let p = c.requires in phis-room (reading_of c.args.m.mode.0) p.0 p.1

pub returns : goal.returns
returns c =
    let p = c.prune_dead_phis.ensures in
    record { answer = p.answer; memory = phis-left _ _ p.memory p.one p.two; tables = p.noted; moves = p.moves }
