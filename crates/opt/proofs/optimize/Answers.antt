use Rattle.origins.specs.declared.Form.TheVariants as form-is
use Rattle.reading.specs.Reading.{reading_of}
use Rattle.opt.proofs.EntryLaws.{result-whole, origins-whole}
use Rattle.reading.proofs.Lined.{mode-lined}
use Rattle.opt.proofs.optimize.Goals as goal

pub returns : goal.returns
returns c =
    let g = c.args in
    let y = mode-lined g.mode in
    let w = c.tidy_small.ensures in
    let q = result-whole (reading_of g.mode) g.text.now in
    record { answer = rw q w.answer; memory = rw q w.memory; records = rw (origins-whole y form-is.Ol g.text.now) w.records }
