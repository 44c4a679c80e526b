use native.Mathlib.Omega.{arith}
use Rattle.origins.specs.Form.{form_shape}
use Rattle.reader.proofs.Laws.{record-in, record-past, record_is, record-away}
use Rattle.reader.proofs.record_at.Goals as goal

pub nonzero_div-file : goal.nonzero_div-file
nonzero_div-file c = omega (arith, c.size_of-z.ensures)

pub overflow_mul-z : goal.overflow_mul-z
overflow_mul-z c = omega (arith, record-in c.args.f c.size_of-z.result c.args.i _ c.size_of-z.ensures c.if-i-file.true)

pub went_at-requires : goal.went_at-requires
went_at-requires c = omega (arith, c.size_of-z.ensures, record-in c.args.f c.size_of-z.result c.args.i _ c.size_of-z.ensures c.if-i-file.true)

pub returns-then-i-file : goal.returns-then-i-file
returns-then-i-file c = record_is (form_shape c.args.f) c.args.file.now c.args.i c.size_of-z.result c.size_of-z.ensures (record-in c.args.f c.size_of-z.result c.args.i _ c.size_of-z.ensures c.if-i-file.true) _ c.went_at.ensures

pub returns : goal.returns
returns c = record-away (form_shape c.args.f) c.args.file.now c.args.i c.size_of-z.result c.size_of-z.ensures (record-past c.args.f c.size_of-z.result c.args.i _ c.size_of-z.ensures c.if-i-file.false)
