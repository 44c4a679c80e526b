use Rattle.std.proofs.Common.{rules, ◌≡◌, sym, refl, ◌∙◌, ap, length}
use Rattle.std.specs.declared.result.Result.TheVariants.{Err}
use Rattle.origins.specs.Form.{form_shape}
use Rattle.reader.specs.Replies.{Reply}
use Rattle.reader.specs.Chains.{Chains, chains_reply, firsts_after, nexts_after}
use Rattle.reader.proofs.Laws.{fine-says}
use Rattle.reader.proofs.ChainLaws.{chains-refused, chains-for}
use Rattle.reader.proofs.lines_of_all.Goals as goal

pub returns-in_err-lines : goal.returns-in_err-lines
returns-in_err-lines c =
    let a = c.args in
    let e : ◌≡◌ {A = Reply} c.from_residual.result (Err c.in_err-lines.field-0.0) = search rules in
    let whole = chains-refused (form_shape a.f) a.file.now a.first.now a.next.now _ (sym c.in_err-lines.was ∙ c.check.ensures) refl in
    record { answer = e ∙ whole.0; memory = whole.1 }

pub answer_chains-requires : goal.answer_chains-requires
answer_chains-requires c = (fine-says (form_shape c.args.f) c.args.file.now _ (sym c.in_ok-lines.was ∙ c.check.ensures)).1

pub returns : goal.returns
returns c =
    let a = c.args in
    let q = chains-for (form_shape a.f) a.file.now _ _ (length a.first.now) (length a.next.now) c.check.ensures c.in_ok-lines.was in
    let m = c.answer_chains.ensures.memory in
    record { answer = c.answer_chains.ensures.answer ∙ ap chains_reply q; memory = (m.0 ∙ ap (λ (l : Chains). firsts_after l a.first.now) q, m.1 ∙ ap (λ (l : Chains). nexts_after l a.next.now) q) }
