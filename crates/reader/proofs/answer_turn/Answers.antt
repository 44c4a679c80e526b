use native.Mathlib.Omega.{arith}
use Rattle.lines.proofs.OutLaws.{wrote-length}
use Rattle.origins.specs.Form.{form_shape}
use Rattle.reader.specs.Replies.{wents_in}
use Rattle.reader.proofs.Laws.{count_small, turn-unfit, turn-short, turn-room, turn-done}
use Rattle.reader.proofs.answer_turn.Goals as goal

pub returns-then-u-m : goal.returns-then-u-m
returns-then-u-m c =
    let whole = turn-unfit (form_shape c.args.g) (wents_in (form_shape c.args.f) c.args.file.now) c.args.out.now c.args.m _ c.requires c.unfit_at-u.ensures c.if-u-m.true in
    record { answer = whole.0; memory = whole.1 }

pub overflow_mul-n : goal.overflow_mul-n
overflow_mul-n c = omega (arith, count_small c.args.f c.args.g c.args.file.now c.args.m c.size_of-z.result c.requires c.size_of-z.ensures)

pub returns-then-out-n : goal.returns-then-out-n
returns-then-out-n c =
    let whole = turn-short (form_shape c.args.g) (wents_in (form_shape c.args.f) c.args.file.now) c.args.out.now c.args.m _ c.requires c.unfit_at-u.ensures c.if-u-m.false _ c.size_of-z.ensures c.if-out-n.true in
    record { answer = whole.0; memory = whole.1 }

pub put_file-e-requires : goal.put_file-e-requires
put_file-e-requires c = turn-room (form_shape c.args.g) (wents_in (form_shape c.args.f) c.args.file.now) c.args.out.now c.args.m _ c.requires c.unfit_at-u.ensures c.if-u-m.false _ c.size_of-z.ensures c.if-out-n.false

pub shape_of-out : goal.shape_of-out
shape_of-out c = wrote-length c.put_file-e.ensures

pub returns : goal.returns
returns c =
    let whole = turn-done (form_shape c.args.g) (wents_in (form_shape c.args.f) c.args.file.now) c.args.out.now c.args.m _ c.requires c.unfit_at-u.ensures c.if-u-m.false _ c.size_of-z.ensures c.if-out-n.false _ _ c.put_file-e.ensures in
    record { answer = whole.0; memory = whole.1 }
