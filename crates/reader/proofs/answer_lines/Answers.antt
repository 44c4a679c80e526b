use native.Mathlib.Omega.{arith}
use Rattle.lines.proofs.OutLaws.{wrote-length}
use Rattle.origins.specs.Form.{form_shape}
use Rattle.origins.specs.Answers.{behind}
use Rattle.reader.specs.Replies.{wents_in}
use Rattle.reader.proofs.Laws.{answer-short, answer-found}
use Rattle.reader.proofs.answer_lines.Goals as goal

pub returns-then-room-k : goal.returns-then-room-k
returns-then-room-k c =
    let whole = answer-short (behind c.args.n (wents_in (form_shape c.args.f) c.args.file.now)) c.args.room.now _ c.count_behind-k.ensures c.if-room-k.true in
    record { answer = whole.0; memory = whole.1 }

pub put_behind-m-requires : goal.put_behind-m-requires
put_behind-m-requires c = omega (arith, c.count_behind-k.ensures, c.if-room-k.false)

pub shape_of-room : goal.shape_of-room
shape_of-room c = wrote-length c.put_behind-m.ensures

pub returns : goal.returns
returns c =
    let whole = answer-found (behind c.args.n (wents_in (form_shape c.args.f) c.args.file.now)) c.args.room.now _ _ _ c.count_behind-k.ensures c.if-room-k.false c.put_behind-m.ensures in
    record { answer = whole.0; memory = whole.1 }
