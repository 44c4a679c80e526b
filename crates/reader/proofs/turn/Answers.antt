use Rattle.std.proofs.Common.{rules, ◌≡◌, sym, refl, ◌∙◌, ap, length}
use Rattle.std.specs.declared.result.Result.TheVariants.{Err}
use Rattle.origins.specs.Form.{form_shape}
use Rattle.origins.specs.Answers.{Turned}
use Rattle.reader.specs.Replies.{Reply, turned_reply, turned_after}
use Rattle.reader.proofs.Laws.{turn-refused, turn-for, fine-says}
use Rattle.reader.proofs.turn.Goals as goal

pub returns-in_err-records : goal.returns-in_err-records
returns-in_err-records c =
    let a = c.args in
    let e : ◌≡◌ {A = Reply} c.from_residual.result (Err c.in_err-records.field-0.0) = search rules in
    let whole = turn-refused (form_shape a.f) a.file.now a.out.now _ (sym c.in_err-records.was ∙ c.check.ensures) (form_shape a.g) refl in
    record { answer = e ∙ whole.0; memory = whole.1 }

pub answer_turn-requires : goal.answer_turn-requires
answer_turn-requires c = (fine-says (form_shape c.args.f) c.args.file.now _ (sym c.in_ok-records.was ∙ c.check.ensures)).1

pub returns : goal.returns
returns c =
    let a = c.args in
    let same = turn-for (form_shape a.f) (form_shape a.g) a.file.now _ _ (length a.out.now) c.check.ensures c.in_ok-records.was in
    record { answer = c.answer_turn.ensures.answer ∙ ap turned_reply same; memory = c.answer_turn.ensures.memory ∙ ap (λ (l : Turned). turned_after l a.out.now) same }
