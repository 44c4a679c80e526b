use Rattle.std.proofs.Common.{rules, ◌≡◌, sym, refl, ◌∙◌, ap, length}
use Rattle.std.specs.declared.result.Result.TheVariants.{Err}
use Rattle.origins.specs.Form.{form_shape}
use Rattle.origins.specs.Answers.{Lines}
use Rattle.reader.specs.Replies.{Reply, lines_reply, lines_after}
use Rattle.reader.proofs.Laws.{lines-refused, lines-for}
use Rattle.reader.proofs.lines_of.Goals as goal

pub returns-in_err-check : goal.returns-in_err-check
returns-in_err-check c =
    let a = c.args in
    let e : ◌≡◌ {A = Reply} c.from_residual.result (Err c.in_err-check.field-0.0) = search rules in
    let whole = lines-refused (form_shape a.f) a.file.now a.room.now _ (sym c.in_err-check.was ∙ c.check.ensures) a.n refl in
    record { answer = e ∙ whole.0; memory = whole.1 }

pub returns : goal.returns
returns c =
    let a = c.args in
    let same = lines-for (form_shape a.f) a.file.now _ _ a.n (length a.room.now) c.check.ensures c.in_ok-check.was in
    record { answer = c.answer_lines.ensures.answer ∙ ap lines_reply same; memory = c.answer_lines.ensures.memory ∙ ap (λ (l : Lines). lines_after l a.room.now) same }
