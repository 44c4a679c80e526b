use Rattle.std.proofs.Common.{◌<◌, length, arith}
use Rattle.origins.specs.Form.{form_shape, size_of}
use Rattle.reader.proofs.Laws.{wents-next, wents-over}
use Rattle.reader.proofs.each.RecordsIterator.next.Goals as goal

pub returns-then-bytes-size-clause-steps : goal.returns-then-bytes-size-clause-steps
returns-then-bytes-size-clause-steps c =
    let s = c.args.self.now in
    let l : length s.bytes.now < size_of (form_shape s.form) = omega (arith, c.size_of-size.ensures, c.if-bytes-size.true) in
    (wents-over (form_shape s.form) s.bytes.now l, wents-over (form_shape s.form) s.bytes.now l)

pub returns-clause-steps : goal.returns-clause-steps
returns-clause-steps c =
    let s = c.args.self.now in
    wents-next (form_shape s.form) s.bytes.now c.size_of-size.result c.went_at.result c.size_of-size.ensures c.if-bytes-size.false c.went_at.ensures
